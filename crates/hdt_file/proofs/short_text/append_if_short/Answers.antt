use Rattle.std.proofs.Common.{arith}
use Rattle.std.proofs.lemmas.Result.{err_from_is_err_and}
use Rattle.hdt_file.specs.Graph.{layout_view}
use Rattle.hdt_file.proofs.TextByLine.{goes_on, ends, keeps_kept, keeps_more, stops}
use Rattle.hdt_file.proofs.short_text.append_if_short.Goals as goal

pub triples-preserved : goal.triples-preserved
triples-preserved c =
    let l = c.triples in
    record {
      kept = c.in_ok-append_window_line.ensures.kept;
      goes_on = goes_on (layout_view c.args.layout.now) c.args.triples.now l.at c.args.out.now.items l.out.items
          c.append_window_line.new.out.items c.triples-test.true l.invariant.goes_on
          c.in_ok-append_window_line.ensures.ok;
      left = keeps_more _ _ _ _ l.invariant.left c.in_ok-append_window_line.ensures.ok.grown;
    }

pub returns-in_err-append_window_line-clause-err : goal.returns-in_err-append_window_line-clause-err
returns-in_err-append_window_line-clause-err c =
    let l = c.triples in
    let p = err_from_is_err_and c.from_residual.result c.from_residual.ensures.1 in
    rw (p.1, p.2) (stops (layout_view c.args.layout.now) c.args.triples.now l.at c.args.out.now.items l.out.items
    c.in_err-append_window_line.field-0.0 c.triples-test.true l.invariant.goes_on
    c.in_err-append_window_line.ensures.err)

pub returns-in_err-append_window_line-clause-left : goal.returns-in_err-append_window_line-clause-left
returns-in_err-append_window_line-clause-left c =
    keeps_kept _ _ _ c.triples.invariant.left c.in_err-append_window_line.ensures.left

pub returns-clause-ok : goal.returns-clause-ok
returns-clause-ok c = λ is.
    let l = c.triples in
    ends (layout_view c.args.layout.now) c.args.triples.now l.at c.args.out.now.items l.out.items
    (omega (arith, c.triples-test.false)) l.invariant.goes_on
