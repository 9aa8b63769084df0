use Rattle.std.proofs.Common.{◌≤◌, ap, length, arith, Some}
use Rattle.std.specs.List.{filter}
use Rattle.std.proofs.lemmas.Result.{err_from_is_err_and}
use Rattle.hdt_triples.specs.Remaining.{remaining_matches}
use Rattle.hdt_file.specs.Graph.{layout_view}
use Rattle.hdt_file.specs.TermFlags.{is_writable}
use Rattle.hdt_file.proofs.StreamingLaws.{begins_limited, ends_taken, ends_zero, goes_on_taken}
use Rattle.hdt_file.proofs.StreamingLaws.{stops_here, stops_taken, stops_there, window_taken}
use Rattle.hdt_file.proofs.TermFlagLaws.{tells}
use Rattle.hdt_file.proofs.WritableLaws.{filter_short, have_lines, last_skipped, limited_skipped, no_more_skipped}
use Rattle.hdt_file.proofs.WritableLaws.{part_skipped}
use Rattle.hdt_file.proofs.windows.stream_windows.Goals as goal

pub returns-in_err-window-clause-err : goal.returns-in_err-window-clause-err
returns-in_err-window-clause-err g c =
    let v = layout_view c.args.layout.now in
    let p = err_from_is_err_and c.from_residual.result c.from_residual.ensures.1 in
    rw (p.1, p.2)
    (stops_here v _ c.args.pending.now _ _
    (have_lines v (is_writable c.args.flags.now) c.args.most (remaining_matches c.args.found)
    (tells v c.args.flags.now c.requires.flags)))

pub windows-init : goal.windows-init
windows-init g c =
    let v = layout_view c.args.layout.now in
    let w = is_writable c.args.flags.now in
    let all = remaining_matches c.args.found in
    let long : length all ≤ 18446744073709551615 = omega (arith, c.requires.fits) in
    let short : length (filter w all) ≤ 18446744073709551615 = omega (arith, long, filter_short w all) in
    record {
      cached = c.requires.cached;
      window = c.in_ok-window.ensures v;
      goes_on = rw c.unwrap_or-left.ensures
          (begins_limited v c.args.most (filter w all) 18446744073709551615 c.args.pending.now _ _ short);
      skipped = rw c.unwrap_or-left.ensures
          (omega (arith, limited_skipped w c.args.most all 18446744073709551615 long));
      bound = omega arith;
    }

pub returns-in_err-skipped-clause-err : goal.returns-in_err-skipped-clause-err
returns-in_err-skipped-clause-err g c =
    let l = c.windows in
    let v = layout_view c.args.layout.now in
    let p = err_from_is_err_and c.from_residual-in_err-skipped.result
    c.from_residual-in_err-skipped.ensures.1 in
    rw (p.1, p.2)
    (stops_there v _ _ c.args.pending.now l.pending _ _ _ _ l.invariant.goes_on
    (have_lines v (is_writable c.args.flags.now) (Some l.left) (remaining_matches l.matches)
    (tells v c.args.flags.now c.requires.flags)))

pub returns-then-len-eq0-clause-ok : goal.returns-then-len-eq0-clause-ok
returns-then-len-eq0-clause-ok g c =
    let l = c.windows in
    let fs = filter (is_writable c.args.flags.now) (remaining_matches l.matches) in
    let taken = window_taken c.min-count.result fs c.clear.new.self.items
    c.append_writable.new.triples.items c.clear.ensures.items c.in_ok-skipped.ensures.kept in
    ends_taken (layout_view c.args.layout.now) _ fs c.min-count.result l.left
    c.args.pending.now l.pending _ _ _ _ (omega (arith, c.min-count.ensures, c.windows-test.true))
    (omega (arith, ap length taken, c.len.ensures, c.append_writable.new.triples.ok.0, c.if-len-eq0.true))
    l.invariant.goes_on

pub returns-then-len-eq0-clause-skipped : goal.returns-then-len-eq0-clause-skipped
returns-then-len-eq0-clause-skipped g c =
    let l = c.windows in
    last_skipped (is_writable c.args.flags.now) _ l.skipped c.in_ok-skipped.field-0 c.min-count.result l.left
    (length c.clear.new.self.items) (length c.append_writable.new.triples.items) (remaining_matches l.matches)
    (remaining_matches c.append_writable.new.matches)
    (omega (arith, c.min-count.ensures)) (omega (arith, c.min-count.ensures, c.windows-test.true)) l.invariant.skipped
    c.in_ok-skipped.ensures.skipped c.in_ok-skipped.ensures.all
    (omega (arith, c.len.ensures, c.append_writable.new.triples.ok.0, c.if-len-eq0.true))

pub stream_window-requires-clause-lines : goal.stream_window-requires-clause-lines
stream_window-requires-clause-lines g c =
    let l = c.windows in
    let v = layout_view c.args.layout.now in
    let fs = filter (is_writable c.args.flags.now) (remaining_matches l.matches) in
    let taken = window_taken c.min-count.result fs c.clear.new.self.items
    c.append_writable.new.triples.items c.clear.ensures.items c.in_ok-skipped.ensures.kept in
    rw (c.deref.ensures.value, taken)
    (have_lines v (is_writable c.args.flags.now) (Some c.min-count.result) (remaining_matches l.matches)
    (tells v c.args.flags.now c.requires.flags))

pub returns-in_err-stream_window-clause-err : goal.returns-in_err-stream_window-clause-err
returns-in_err-stream_window-clause-err g c =
    let l = c.windows in
    let v = layout_view c.args.layout.now in
    let fs = filter (is_writable c.args.flags.now) (remaining_matches l.matches) in
    let taken = window_taken c.min-count.result fs c.clear.new.self.items
    c.append_writable.new.triples.items c.clear.ensures.items c.in_ok-skipped.ensures.kept in
    let p = err_from_is_err_and c.from_residual-in_err-stream_window.result
    c.from_residual-in_err-stream_window.ensures.1 in
    rw (p.1, p.2)
    (stops_taken v _ fs c.min-count.result l.left
    c.in_err-stream_window.field-0.0 c.args.pending.now l.pending _ _ _ _ _ _ (omega (arith, c.min-count.ensures))
    l.invariant.goes_on
    (have_lines v (is_writable c.args.flags.now) (Some l.left) (remaining_matches l.matches)
    (tells v c.args.flags.now c.requires.flags))
    (rw (c.deref.ensures.value, taken) at c.in_err-stream_window.ensures.err))

pub windows-preserved : goal.windows-preserved
windows-preserved g c =
    let l = c.windows in
    let v = layout_view c.args.layout.now in
    let w = is_writable c.args.flags.now in
    let fs = filter w (remaining_matches l.matches) in
    let n = c.min-count.result in
    let le : n ≤ l.left = omega (arith, c.min-count.ensures) in
    let taken = window_taken n fs c.clear.new.self.items
    c.append_writable.new.triples.items c.clear.ensures.items c.in_ok-skipped.ensures.kept in
    record {
      cached = c.in_ok-stream_window.ensures.kept;
      window = c.in_ok-stream_window.ensures.window;
      goes_on = rw c.in_ok-skipped.ensures.left
          (goes_on_taken v _ fs n l.left c.args.pending.now l.pending
          c.stream_window.new.pending _ _ _ _ _ _ le l.invariant.goes_on
          (rw (c.deref.ensures.value, taken) at c.in_ok-stream_window.ensures.ok));
      skipped = part_skipped w _ l.skipped c.in_ok-skipped.field-0 n l.left (remaining_matches l.matches)
          (remaining_matches c.append_writable.new.matches) le l.invariant.skipped
          c.in_ok-skipped.ensures.skipped;
      bound = omega (arith, l.invariant.bound, c.in_ok-skipped.ensures.fits);
    }

pub returns-clause-ok : goal.returns-clause-ok
returns-clause-ok g c =
    let l = c.windows in
    ends_zero (layout_view c.args.layout.now) _ (filter (is_writable c.args.flags.now) (remaining_matches l.matches))
    l.left c.args.pending.now l.pending _ _ _ _ (omega (arith, c.windows-test.false)) l.invariant.goes_on

pub returns-clause-skipped : goal.returns-clause-skipped
returns-clause-skipped g c =
    let l = c.windows in
    no_more_skipped (is_writable c.args.flags.now) _ l.skipped l.left (remaining_matches l.matches)
    (omega (arith, c.windows-test.false)) l.invariant.skipped
