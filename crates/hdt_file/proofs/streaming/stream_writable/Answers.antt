use Rattle.std.proofs.Common.{inr}
use Rattle.std.proofs.lemmas.Result.{err_from_is_err_and}
use Rattle.hdt_file.specs.Graph.{layout_view}
use Rattle.hdt_file.proofs.StreamingLaws.{stopped_cut, stream_cut, stream_written}
use Rattle.hdt_file.proofs.WritableStreams.{writable_cut, writable_written}
use Rattle.hdt_file.proofs.streaming.stream_writable.Goals as goal

pub returns-in_err-skipped-clause-err : goal.returns-in_err-skipped-clause-err
returns-in_err-skipped-clause-err g c =
    let v = layout_view c.args.layout.now in
    let p = err_from_is_err_and c.from_residual-in_err-skipped.result c.from_residual-in_err-skipped.ensures.1 in
    rw (p.1, p.2)
    (inr (writable_cut v c.in_ok-flags.flags c.args.most c.args.pattern _ _ _ _ _ _ c.search_if_given.ensures.items
    c.in_ok-flags.ensures
    (stopped_cut v _ _ _ _ _ _ _ c.in_err-skipped.ensures.err c.new-pending.ensures.0 c.new-pending.ensures.1)))

pub returns-in_err-flush-clause-err : goal.returns-in_err-flush-clause-err
returns-in_err-flush-clause-err g c =
    let v = layout_view c.args.layout.now in
    let p = err_from_is_err_and c.from_residual-in_err-flush.result c.from_residual-in_err-flush.ensures.1 in
    rw (p.1, p.2)
    (inr (writable_cut v c.in_ok-flags.flags c.args.most c.args.pattern _ _ _ _ _ _ c.search_if_given.ensures.items
    c.in_ok-flags.ensures
    (stream_cut v _ c.in_err-flush.field-0.0 _ _ _ _ _ _ _ _ c.in_ok-skipped.ensures.ok c.new-pending.ensures.0
    c.new-pending.ensures.1 c.in_err-flush.ensures.err)))

pub returns-clause-ok : goal.returns-clause-ok
returns-clause-ok g c =
    let v = layout_view c.args.layout.now in
    writable_written v c.in_ok-flags.flags c.args.most c.args.pattern _ _ _ _ _ c.search_if_given.ensures.items
    c.in_ok-flags.ensures c.in_ok-skipped.ensures.skipped
    (stream_written v _ _ _ _ _ _ _ _ _ c.in_ok-skipped.ensures.ok c.new-pending.ensures.0 c.new-pending.ensures.1
    c.in_ok-flush.ensures.ok c.in_ok-flush.ensures.count)
