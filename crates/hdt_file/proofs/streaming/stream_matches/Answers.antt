use Rattle.std.proofs.Common.{◌≡◌, ◌∙◌, [], inr}
use Rattle.std.proofs.lemmas.Result.{err_from_is_err_and}
use Rattle.hdt_file.specs.Graph.{layout_view}
use Rattle.hdt_file.proofs.StreamingLaws.{not_short, short_cut, stopped_cut, stream_cut, stream_written}
use Rattle.hdt_file.proofs.WritableStreams.{checked_kept}
use Rattle.hdt_file.proofs.streaming.stream_matches.Goals as goal

pub returns-in_err-flush-clause-err : goal.returns-in_err-flush-clause-err
returns-in_err-flush-clause-err g c =
    let p = err_from_is_err_and c.from_residual-in_err-flush.result c.from_residual-in_err-flush.ensures.1 in
    rw (p.1, p.2)
    (inr (short_cut (layout_view c.args.layout.now) _ c.in_err-flush.field-0.0 _ _ _ _ _ _ _
    (c.in_ok-append_short_matches.ensures.ok c.if-branch.true) c.new-pending.ensures.0 c.new-pending.ensures.1
    c.in_err-flush.ensures.err))

pub returns-in_err-stream_windows-clause-err : goal.returns-in_err-stream_windows-clause-err
returns-in_err-stream_windows-clause-err g c =
    let p = err_from_is_err_and c.from_residual-in_err-stream_windows.result
    c.from_residual-in_err-stream_windows.ensures.1 in
    let same = checked_kept (layout_view c.args.layout.now) c.in_ok-flags.flags c.args.most _ _ _
    c.in_ok-flags.ensures c.requires.checked c.requires.streamed c.in_ok-check_terms.ensures.ok in
    let none : c.append_short_matches.new.out.items ≡ [] =
    c.in_ok-append_short_matches.ensures.left (not_short _ c.if-branch.false) ∙ c.new-pending.ensures.0 in
    rw (p.1, p.2)
    (inr (stopped_cut (layout_view c.args.layout.now) _ _ _ _ _ _ _
    (rw same at c.in_err-stream_windows.ensures.err) none c.new-pending.ensures.1))

pub returns-in_err-flush-2-clause-err : goal.returns-in_err-flush-2-clause-err
returns-in_err-flush-2-clause-err g c =
    let p = err_from_is_err_and c.from_residual-in_err-flush-2.result c.from_residual-in_err-flush-2.ensures.1 in
    let same = checked_kept (layout_view c.args.layout.now) c.in_ok-flags.flags c.args.most _ _ _
    c.in_ok-flags.ensures c.requires.checked c.requires.streamed c.in_ok-check_terms.ensures.ok in
    let none : c.append_short_matches.new.out.items ≡ [] =
    c.in_ok-append_short_matches.ensures.left (not_short _ c.if-branch.false) ∙ c.new-pending.ensures.0 in
    rw (p.1, p.2)
    (inr (stream_cut (layout_view c.args.layout.now) _ c.in_err-flush-2.field-0.0 _ _ _ _ _ _ _ _
    (rw same at c.in_ok-stream_windows.ensures.ok) none c.new-pending.ensures.1
    c.in_err-flush-2.ensures.err))

pub returns-clause-ok : goal.returns-clause-ok
returns-clause-ok g c =
    let same = checked_kept (layout_view c.args.layout.now) c.in_ok-flags.flags c.args.most _ _ _
    c.in_ok-flags.ensures c.requires.checked c.requires.streamed c.in_ok-check_terms.ensures.ok in
    let none : c.append_short_matches.new.out.items ≡ [] =
    c.in_ok-append_short_matches.ensures.left (not_short _ c.if-branch.false) ∙ c.new-pending.ensures.0 in
    stream_written (layout_view c.args.layout.now) _ _ _ _ _ _ _ _ _
    (rw same at c.in_ok-stream_windows.ensures.ok) none c.new-pending.ensures.1
    c.in_ok-flush-2.ensures.ok c.in_ok-flush-2.ensures.count
