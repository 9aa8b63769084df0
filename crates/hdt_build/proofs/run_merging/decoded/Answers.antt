use Rattle.std.proofs.Common.{◌∙◌, ◌++◌, List, ℕ, ap, sym}
use Rattle.hdt_build.proofs.TripleRuns.{joined_next, joined_none}
use Rattle.hdt_build.proofs.run_merging.decoded.Goals as goal

pub loop-run-init : goal.loop-run-init
loop-run-init c = c.in_ok-made.ensures ∙ sym joined_none

pub loop-run-preserved : goal.loop-run-preserved
loop-run-preserved c =
    let l = c.loop-run in
    let run = c.run-item.result in
    c.in_ok-append_run.ensures
    ∙ (ap (λ (x : List (List ℕ)). x ++ run) l.invariant
    ∙ sym (joined_next c.runs-runs.result.now l.run-index run c.loop-run-test.true c.run-item.is))
