use Rattle.std.proofs.lemmas.Result.{IfErr-weaker, on_err_weaker, on_ok_weaker}
use Rattle.hdt_file.specs.Graph.{layout_view}
use Rattle.hdt_file.proofs.RenderedTermLaws.{line_made, object_reported}
use Rattle.hdt_file.proofs.TextByLine.{keeps_grown, keeps_kept, keeps_more}
use Rattle.hdt_file.proofs.term_writing.append_line.Goals as goal

pub returns-clause-ok : goal.returns-clause-ok
returns-clause-ok c =
    on_ok_weaker c.put_object.result
    (line_made (layout_view c.args.layout.now) c.args.triple _ _ _ _ c.in_ok-append_and_cache.ensures.ok
    c.in_ok-put_predicate.ensures.ok) c.put_object.ensures.ok

pub returns-clause-err : goal.returns-clause-err
returns-clause-err c =
    IfErr-weaker c.put_object.result _ _
    (λ e. object_reported (layout_view c.args.layout.now) c.args.triple _ _ _ _ e c.in_ok-append_and_cache.ensures.ok
    c.in_ok-put_predicate.ensures.ok) c.put_object.ensures.err

pub returns-clause-left : goal.returns-clause-left
returns-clause-left c =
    on_err_weaker c.put_object.result
    (keeps_kept _ _ _ (keeps_more _ _ _ _
    (keeps_grown _ _ _ c.in_ok-append_and_cache.ensures.ok.grown) c.in_ok-put_predicate.ensures.ok.grown))
    c.put_object.ensures.left
