use Rattle.std.proofs.lemmas.Result.{err_from_is_err_and}
use Rattle.hdt_file.proofs.RenderedTermLaws.{same_rendered, line_made, subject_reported, predicate_reported}
use Rattle.hdt_file.proofs.RenderedTermLaws.{object_reported}
use Rattle.hdt_file.proofs.term_tables.append_line_from_tables.Goals as goal

pub returns-in_err-append_rendered-clause-err : goal.returns-in_err-append_rendered-clause-err
returns-in_err-append_rendered-clause-err c =
    let t = c.args.triple in
    let p = err_from_is_err_and c.from_residual.result c.from_residual.ensures.1 in
    rw (p.1, p.2) (λ g h object. subject_reported g t c.in_err-append_rendered.field-0.0
    (c.in_err-append_rendered.ensures.err _ (same_rendered _ _ _ _ c.rendered_string.ensures h.subject)))

pub returns-in_err-append_rendered-2-clause-err : goal.returns-in_err-append_rendered-2-clause-err
returns-in_err-append_rendered-2-clause-err c =
    let t = c.args.triple in
    let p = err_from_is_err_and c.from_residual-in_err-append_rendered-2.result
    c.from_residual-in_err-append_rendered-2.ensures.1 in
    rw (p.1, p.2)
    (λ g h object. predicate_reported g t _ _ c.in_err-append_rendered-2.field-0.0
    (c.in_ok-append_rendered.ensures.ok _ (same_rendered _ _ _ _ c.rendered_string.ensures h.subject))
    (c.in_err-append_rendered-2.ensures.err _ (same_rendered _ _ _ _ c.rendered_string-2.ensures h.predicate)))

pub returns-in_err-append_rendered-3-clause-err : goal.returns-in_err-append_rendered-3-clause-err
returns-in_err-append_rendered-3-clause-err c =
    let t = c.args.triple in
    let p = err_from_is_err_and c.from_residual-in_err-append_rendered-3.result
    c.from_residual-in_err-append_rendered-3.ensures.1 in
    rw (p.1, p.2)
    (λ g h object. object_reported g t _ _ _ _ c.in_err-append_rendered-3.field-0.0
    (c.in_ok-append_rendered.ensures.ok _ (same_rendered _ _ _ _ c.rendered_string.ensures h.subject))
    (c.in_ok-append_rendered-2.ensures.ok _ (same_rendered _ _ _ _ c.rendered_string-2.ensures h.predicate))
    (c.in_err-append_rendered-3.ensures.err _ (same_rendered _ _ _ _ object h.object)))

pub returns-clause-ok : goal.returns-clause-ok
returns-clause-ok c =
    let t = c.args.triple in
    λ g h object. line_made g t c.args.out.now.items c.append_rendered.new.out.items c.append_rendered-2.new.out.items
    c.append_rendered-3.new.out.items
    (c.in_ok-append_rendered.ensures.ok _ (same_rendered _ _ _ _ c.rendered_string.ensures h.subject))
    (c.in_ok-append_rendered-2.ensures.ok _ (same_rendered _ _ _ _ c.rendered_string-2.ensures h.predicate))
    (c.in_ok-append_rendered-3.ensures.ok _ (same_rendered _ _ _ _ object h.object))
