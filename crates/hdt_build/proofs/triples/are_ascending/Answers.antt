use Rattle.std.proofs.Common.{arith, ◌+◌}
use Rattle.hdt_triples.specs.Order.{nth_triple}
use Rattle.hdt_build.proofs.Order.{triple_less}
use Rattle.hdt_build.proofs.triples.are_ascending.Goals as goal

pub returns : goal.returns
returns c = λ _. λ k lt. triple_less (nth_triple c.args.triples.now k) (nth_triple c.args.triples.now (k + 1))
    (c.loop-at.invariant.ascend k (omega (arith, lt, c.loop-at-test.false)))
