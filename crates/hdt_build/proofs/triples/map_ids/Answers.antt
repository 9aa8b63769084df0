use Rattle.std.proofs.Common.{arith}
use Rattle.hdt_build.proofs.IndexTriples.{all_replaced}
use Rattle.hdt_build.proofs.triples.map_ids.Goals as goal

pub returns : goal.returns
returns c =
    let old = c.args.triples.now in
    let done = rw c.deref_mut-triple-items.ensures.value at c.loop-triple.invariant.done in
    let long = rw c.deref_mut-triple-items.ensures.value at c.loop-triple.invariant.long in
    all_replaced c.args.subjects.now c.args.predicates.now c.args.objects.now old.len old.items
    c.loop-triple.triple-items _ (omega (arith, old.ok.0)) long
    (λ k below. done k (omega (arith, c.loop-triple-test.false)))
