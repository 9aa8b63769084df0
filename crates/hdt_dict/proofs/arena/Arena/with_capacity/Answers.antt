use Rattle.hdt_dict.specs.Laws.Arena.{none, none_starts}
use Rattle.hdt_dict.proofs.arena.Arena.with_capacity.Goals as goal

pub returns : goal.returns
returns c = rw (c.in_ok-bytes.ensures.items, c.in_ok-push.ensures.items, c.in_ok-starts.ensures.items) none

pub invariant_of-result : goal.invariant_of-result
invariant_of-result c = rw (
  c.in_ok-bytes.ensures.items,
  c.in_ok-push.ensures.items,
  c.in_ok-starts.ensures.items,
) none_starts
