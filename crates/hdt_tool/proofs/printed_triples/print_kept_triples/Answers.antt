use Rattle.std.proofs.lemmas.Result.{err_from_is_err_and}
use Rattle.hdt_file.specs.Graph.{layout_view}
use Rattle.hdt_tool.proofs.StreamedTriples.{kept_cut, kept_written}
use Rattle.hdt_tool.proofs.printed_triples.print_kept_triples.Goals as goal

pub returns-in_err-stream_writable-clause-err : goal.returns-in_err-stream_writable-clause-err
returns-in_err-stream_writable-clause-err g c =
    let p = err_from_is_err_and c.from_residual.result c.from_residual.ensures.1 in
    rw (p.1, p.2)
    (kept_cut (layout_view c.args.layout.now) c.args.given.now c.args.most _ c.in_err-stream_writable.field-0.0
    _ _ _ _ _ c.find_pattern-pattern.ensures c.in_err-stream_writable.ensures.err)

pub returns-clause-ok : goal.returns-clause-ok
returns-clause-ok g c =
    kept_written (layout_view c.args.layout.now) c.args.given.now c.args.most _ _ _ _
    c.find_pattern-pattern.ensures c.in_ok-stream_writable.ensures.ok
