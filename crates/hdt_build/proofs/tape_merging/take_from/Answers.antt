use Rattle.std.proofs.Common.{◌∙◌, arith, sym}
use Rattle.hdt_build.proofs.TripleRuns.{one_taken}
use Rattle.hdt_build.proofs.tape_merging.take_from.Goals as goal

pub returns : goal.returns
returns g c = λ known.
    let cursors = c.args.cursors.now in
    one_taken cursors.items c.args.run c.index_mut.result.now c.in-Some.triple c.take.new.self
    (omega (arith, c.if-run-len.false, c.len.ensures, cursors.ok.0))
    (sym c.index_mut.ensures.value ∙ (rw c.in-Some.is at c.in_ok-triple.ensures.some) known)
