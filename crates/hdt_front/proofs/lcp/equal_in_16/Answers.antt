use Rattle.std.proofs.Common.{arith}
use Rattle.hdt_front.proofs.SimdLoads.{lcp_load}
use Rattle.hdt_front.proofs.lcp.equal_in_16.Goals as goal

pub returns : goal.returns
returns c = lcp_load c.args.a.now c.args.b.now c.args.at 16 _ c.requires.in_a c.requires.in_b
    (omega arith) c.requires.so_far c.first_set.ensures
