use Rattle.std.proofs.Common.{arith}
use Rattle.std.proofs.lemmas.Result.{err_from_is_err_and}
use Rattle.hdt_file.specs.Graph.{layout_view}
use Rattle.hdt_file.proofs.TextByLine.{goes_on, ends, keeps_more, stops}
use Rattle.hdt_file.proofs.rendering.append_by_lookup.Goals as goal

pub triples-preserved : goal.triples-preserved
triples-preserved c =
    let l = c.triples in
    record {
      kept = c.in_ok-append_line.ensures.kept;
      goes_on = goes_on (layout_view c.args.layout.now) c.args.triples.now l.at c.args.out.now.items l.out.items
          c.append_line.new.out.items c.triples-test.true l.invariant.goes_on c.in_ok-append_line.ensures.ok;
      left = keeps_more _ _ _ _ l.invariant.left c.in_ok-append_line.ensures.ok.grown;
    }

pub returns-in_err-append_line-clause-err : goal.returns-in_err-append_line-clause-err
returns-in_err-append_line-clause-err c =
    let l = c.triples in
    let p = err_from_is_err_and c.from_residual.result c.from_residual.ensures.1 in
    rw (p.1, p.2) (stops (layout_view c.args.layout.now) c.args.triples.now l.at c.args.out.now.items l.out.items
    c.in_err-append_line.field-0.0 c.triples-test.true l.invariant.goes_on c.in_err-append_line.ensures.err)

pub returns-clause-ok : goal.returns-clause-ok
returns-clause-ok c =
    let l = c.triples in
    ends (layout_view c.args.layout.now) c.args.triples.now l.at c.args.out.now.items l.out.items
    (omega (arith, c.triples-test.false)) l.invariant.goes_on
