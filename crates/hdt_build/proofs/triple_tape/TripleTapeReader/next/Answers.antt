use Rattle.std.proofs.Common.{arith, refl}
use Rattle.hdt_build.specs.Inside.TripleTapes.{decoded_triples}
use Rattle.hdt_build.proofs.TripleTapes.{fewer_triples}
use Rattle.hdt_build.proofs.triple_tape.TripleTapeReader.next.Goals as goal

pub returns-clause-some : goal.returns-clause-some
unfolding decoded_triples
returns-clause-some g c = λ known.
    let a = rw c.in-Some.is at c.in_ok-step.ensures.some in
    let b = rw c.in-Some-2.is at c.in_ok-predicate.ensures.some in
    let d = rw c.in-Some-3.is at c.in_ok-object.ensures.some in
    rw (← c.self.view_is, a known, b known, d known) refl

pub returns-clause-fewer : goal.returns-clause-fewer
returns-clause-fewer g c =
    let a = rw c.in-Some.is at c.in_ok-step.ensures.fewer in
    let b = rw c.in-Some-2.is at c.in_ok-predicate.ensures.fewer in
    let d = rw c.in-Some-3.is at c.in_ok-object.ensures.fewer in
    rw (← c.self.view_is) (fewer_triples _ _ _ _ (omega (arith, a, b, d)))
