use Rattle.std.proofs.Common.{◌∙◌, ap, sym, ◌++◌, ◌∷◌, [], arith, take}
use Rattle.std.proofs.lemmas.List.{take_all, take_more}
use Rattle.hdt_build.proofs.record_merging.cursors_of.Goals as goal

pub loop-run-preserved : goal.loop-run-preserved
loop-run-preserved g c known =
    c.in_ok-push_cursor.ensures
    ∙ (ap (λ l. l ++ c.in_ok-cursor.cursor ∷ []) (c.loop-run.invariant known)
    ∙ (ap (λ x. take c.loop-run.run-index c.args.runs.now ++ x ∷ [])
    (c.in_ok-cursor.ensures known ∙ c.run-item.is)
    ∙ sym (take_more c.args.runs.now c.loop-run.run-index c.run-item.result c.loop-run-test.true)))

pub returns : goal.returns
returns g c known =
    c.loop-run.invariant known
    ∙ take_all c.loop-run.run-index c.args.runs.now (omega (arith, c.loop-run-test.false))
