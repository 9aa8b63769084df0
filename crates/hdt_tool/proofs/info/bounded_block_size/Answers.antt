use Rattle.std.proofs.Common.{arith}
use Rattle.hdt_tool.proofs.InfoLaws.{bounded}
use Rattle.hdt_tool.proofs.info.bounded_block_size.Goals as goal

pub returns : goal.returns
returns c = λ bytes. bounded _ c.args.block_size bytes (grind arith) (grind arith)
