use Rattle.std.proofs.Common.{arith}
use Rattle.std.proofs.lemmas.Result.{err_from_is_err_and}
use Rattle.hdt_file.specs.Inside.RenderedTerms.{rendered_string}
use Rattle.hdt_file.proofs.RenderedTermLaws.{found_at, tables_of_triple}
use Rattle.hdt_file.proofs.TextByLine.{ends, goes_on, keeps_kept, stops}
use Rattle.hdt_file.proofs.term_tables.append_lines.Goals as goal

pub triples-preserved : goal.triples-preserved
triples-preserved c =
    let l = c.triples in
    let ts = c.args.triples.now in
    let object = found_at (λ x. x.now)
    (λ u. rendered_string c.args.tables.now.objects u.2) c.in_ok-objects.objects.items ts l.at c.index.result.now
    (0, 0, 0) c.in_ok-objects.ensures c.triples-test.true c.index.ensures in
    record {
      goes_on = λ g are. goes_on g ts l.at c.args.out.now.items l.out.items c.append_line_from_tables.new.out.items
          c.triples-test.true (l.invariant.goes_on g are)
          (c.in_ok-append_line_from_tables.ensures.ok g
          (tables_of_triple g ts c.args.tables.now l.at are c.triples-test.true) object);
      kept = keeps_kept _ _ _ l.invariant.kept c.in_ok-append_line_from_tables.ensures.kept;
    }

pub returns-in_err-append_line_from_tables-clause-err : goal.returns-in_err-append_line_from_tables-clause-err
returns-in_err-append_line_from_tables-clause-err c =
    let l = c.triples in
    let ts = c.args.triples.now in
    let object = found_at (λ x. x.now)
    (λ u. rendered_string c.args.tables.now.objects u.2) c.in_ok-objects.objects.items ts l.at c.index.result.now
    (0, 0, 0) c.in_ok-objects.ensures c.triples-test.true c.index.ensures in
    let p = err_from_is_err_and c.from_residual-in_err-append_line_from_tables.result
    c.from_residual-in_err-append_line_from_tables.ensures.1 in
    rw (p.1, p.2)
    (λ g are. stops g ts l.at c.args.out.now.items l.out.items c.in_err-append_line_from_tables.field-0.0
    c.triples-test.true (l.invariant.goes_on g are)
    (c.in_err-append_line_from_tables.ensures.err g
    (tables_of_triple g ts c.args.tables.now l.at are c.triples-test.true) object))

pub returns-clause-ok : goal.returns-clause-ok
returns-clause-ok c = λ g are. ends g c.args.triples.now c.triples.at c.args.out.now.items c.triples.out.items
    (omega (arith, c.triples-test.false)) (c.triples.invariant.goes_on g are)
