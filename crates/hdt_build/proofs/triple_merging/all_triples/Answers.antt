use Rattle.std.proofs.Common.{◌∙◌, ◌++◌, List, ap, sym}
use Rattle.hdt_triples.specs.TripleSequences.{Triple}
use Rattle.hdt_build.proofs.TripleRuns.{joined_next, joined_none}
use Rattle.hdt_build.proofs.triple_merging.all_triples.Goals as goal

pub loop-run-init : goal.loop-run-init
loop-run-init c = c.new-made.ensures.items ∙ sym joined_none

pub loop-run-preserved : goal.loop-run-preserved
loop-run-preserved c =
    let l = c.loop-run in
    let run = c.run-item.result in
    c.in_ok-append_run.ensures
    ∙ (ap (λ (x : List Triple). x ++ run) l.invariant
    ∙ sym (joined_next c.args.runs.now l.run-index run c.loop-run-test.true c.run-item.is))
