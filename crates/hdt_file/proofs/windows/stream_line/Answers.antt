use Rattle.std.proofs.lemmas.Result.{err_from_is_err_and}
use Rattle.hdt_wire.specs.Counted.{inner, failures}
use Rattle.hdt_file.specs.Graph.{layout_view}
use Rattle.hdt_file.proofs.StreamingLaws.{line_cut, line_put, line_stops}
use Rattle.hdt_file.proofs.windows.stream_line.Goals as goal

pub returns-in_err-append_window_line-clause-err : goal.returns-in_err-append_window_line-clause-err
returns-in_err-append_window_line-clause-err g c =
    let p = err_from_is_err_and c.from_residual.result c.from_residual.ensures.1 in
    rw (p.1, p.2)
    (line_stops (layout_view c.args.layout.now) c.args.triple c.in_err-append_window_line.field-0.0 c.args.pending.now
    (g.W.Write.contents (inner c.args.out.now)) (failures c.args.out.now) c.requires.line
    c.in_err-append_window_line.ensures.err)

pub returns-clause-ok : goal.returns-clause-ok
returns-clause-ok g c =
    line_put (layout_view c.args.layout.now) c.args.triple c.args.pending.now c.append_window_line.new.out.items
    c.flush_if_long.new.self _ _ _ _ c.flush_if_long.result c.in_ok-append_window_line.ensures.ok
    c.flush_if_long.ensures.ok c.flush_if_long.ensures.writer_unfailed

pub returns-clause-err : goal.returns-clause-err
returns-clause-err g c =
    line_cut (layout_view c.args.layout.now) c.args.triple c.args.pending.now c.append_window_line.new.out.items
    _ _ _ _ c.flush_if_long.result c.in_ok-append_window_line.ensures.ok c.flush_if_long.ensures.err
