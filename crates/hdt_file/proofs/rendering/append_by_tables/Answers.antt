use Rattle.std.proofs.Common.{sym, ◌∙◌}
use Rattle.std.proofs.lemmas.Bool.{eqb-true}
use Rattle.std.proofs.lemmas.Result.{err_from_is_err_and}
use Rattle.hdt_file.specs.Inside.RenderedTerms.{AreTables}
use Rattle.hdt_file.specs.Graph.{layout_view}
use Rattle.hdt_file.proofs.RenderedTermLaws.{tables_of_first, tables_of_rest}
use Rattle.hdt_file.proofs.TextByLine.{text_ends, text_goes_on, text_stops, keeps_more}
use Rattle.hdt_file.proofs.rendering.append_by_tables.Goals as goal

pub lines-preserved : goal.lines-preserved
lines-preserved c =
    let g = layout_view c.args.layout.now in
    let l = c.lines in
    let n = c.min.result in
    let tables = c.in_ok-tables.tables in
    let taken : AreTables g c.split_at.result.0.now tables =
    rw c.split_at.ensures.front (tables_of_first g l.rest.now tables n l.invariant.tables) in
    let grown = rw c.split_at.ensures.front at (c.in_ok-append_lines.ensures.ok g taken) in
    record {
      tables = rw c.split_at.ensures.back (tables_of_rest g l.rest.now tables n l.invariant.tables);
      goes_on = rw c.split_at.ensures.back
          (text_goes_on g c.args.triples.now l.rest.now n c.args.out.now.items l.out.items c.append_lines.new.out.items
          l.invariant.goes_on grown);
      left = keeps_more _ _ _ _ l.invariant.left grown.grown;
    }

pub returns-in_err-append_lines-clause-err : goal.returns-in_err-append_lines-clause-err
returns-in_err-append_lines-clause-err c =
    let g = layout_view c.args.layout.now in
    let l = c.lines in
    let n = c.min.result in
    let taken : AreTables g c.split_at.result.0.now c.in_ok-tables.tables =
    rw c.split_at.ensures.front (tables_of_first g l.rest.now c.in_ok-tables.tables n l.invariant.tables) in
    let p = err_from_is_err_and c.from_residual-in_err-append_lines.result
    c.from_residual-in_err-append_lines.ensures.1 in
    rw (p.1, p.2)
    (text_stops g c.args.triples.now l.rest.now n c.args.out.now.items l.out.items c.in_err-append_lines.field-0.0
    l.invariant.goes_on (rw c.split_at.ensures.front at (c.in_err-append_lines.ensures.err g taken)))

pub returns-clause-ok : goal.returns-clause-ok
returns-clause-ok c =
    let l = c.lines in
    text_ends (layout_view c.args.layout.now) c.args.triples.now l.rest.now c.args.out.now.items l.out.items
    (eqb-true _ _ (sym c.is_empty.ensures ∙ c.lines-test.false)) l.invariant.goes_on
