use Rattle.hdt_dict.specs.Laws.Arena.{none, none_starts, one_start}
use Rattle.hdt_dict.proofs.arena.Arena.clear.Goals as goal

pub returns : goal.returns
returns c = rw (
  c.clear.ensures.items,
  c.truncate.ensures.items,
  one_start c.self.inside.starts.items c.self.invariant.some,
) none

pub invariant_of-self : goal.invariant_of-self
invariant_of-self c = rw (
  c.clear.ensures.items,
  c.truncate.ensures.items,
  one_start c.self.inside.starts.items c.self.invariant.some,
) none_starts
