use Rattle.std.proofs.Common.{ap, length, arith}
use Rattle.hdt_dict.specs.Laws.Arena.{size}
use Rattle.hdt_dict.proofs.arena.Arena.len.Goals as goal

pub returns : goal.returns
returns c = omega (
  arith,
  size c.self.inside.bytes.items c.self.inside.starts.items,
  ap length c.self.view_is,
  c.self.inside.starts.ok.0,
  c.len.ensures,
)
