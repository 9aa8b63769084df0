use Rattle.std.proofs.Common.{◌∙◌, ℕ, ap, arith, drop, length, sym, take}
use Rattle.std.proofs.lemmas.List.{length-append}
use Rattle.std.proofs.lemmas.List.Elements.{All-nil, All-push}
use Rattle.hdt_build.specs.Inside.SortedEntries.{IsCursorOf}
use Rattle.hdt_build.specs.Inside.TripleRuns.{joined_runs}
use Rattle.hdt_build.proofs.StringCursors.{run_begins, run_ends}
use Rattle.hdt_build.proofs.TripleRuns.{joined_next, joined_none}
use Rattle.hdt_build.proofs.run_merging.run_cursors.Goals as goal

pub loop-run-init : goal.loop-run-init
loop-run-init c = record {
  at = sym (ap length joined_none);
  cursors = rw c.in_ok-made.ensures.items (All-nil (IsCursorOf c.args.list.now));
}

pub loop-run-preserved : goal.loop-run-preserved
loop-run-preserved c =
    let l = c.loop-run in
    let runs = c.runs-runs.result.now in
    let xs = c.args.list.now in
    let k = l.run-index in
    let run = c.run-item.result in
    let begins = run_begins runs k run c.loop-run-test.true c.run-item.is in
    let ends = run_ends runs k run c.loop-run-test.true c.run-item.is in
    let joined = joined_next runs k run c.loop-run-test.true c.run-item.is in
    record {
      at = omega (
        arith,
        l.invariant.at,
        ends,
        c.requires,
        c.len.ensures,
        ap length c.runs-runs.ensures,
        ap length joined,
        length-append (joined_runs (take k runs)) run,
      );
      cursors = rw c.in_ok-push.ensures.items
          (All-push (IsCursorOf xs) l.made.items c.in_ok-new.field-0 l.invariant.cursors
          (c.in_ok-new.ensures xs c.requires (
            begins.0,
            ap (λ (n : ℕ). drop n xs) l.invariant.at
                ∙ (ap (drop (length (joined_runs (take k runs)))) (sym c.runs-runs.ensures) ∙ begins.1),
          )));
    }
