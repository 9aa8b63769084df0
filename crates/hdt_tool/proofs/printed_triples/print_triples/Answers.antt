use Rattle.std.proofs.Common.{[], inr}
use Rattle.std.proofs.KnownBytes.{Appends-nil}
use Rattle.std.proofs.lemmas.Result.{IfErr-weaker, err_from_is_err_and, on_ok_weaker}
use Rattle.hdt_file.specs.Graph.{layout_view}
use Rattle.hdt_file.specs.TextWriting.{limited, matches_if_given}
use Rattle.hdt_triples.specs.Remaining.{remaining_matches}
use Rattle.hdt_tool.specs.TriplesText.{numbers_lines}
use Rattle.hdt_tool.proofs.StreamedTriples.{count_printed, found_cut, found_printed, line_cut, no_numbers}
use Rattle.hdt_tool.proofs.StreamedTriples.{numbers_printed}
use Rattle.hdt_tool.proofs.printed_triples.print_triples.Goals as goal

pub returns-in_err-stream_layout-in-NTriples-clause-err : goal.returns-in_err-stream_layout-in-NTriples-clause-err
returns-in_err-stream_layout-in-NTriples-clause-err g c =
    let p = err_from_is_err_and c.from_residual.result c.from_residual.ensures.1 in
    rw (p.1, p.2, c.in-NTriples.is)
    (found_cut (layout_view c.args.layout.now) c.args.given.now c.args.most _
    c.in_err-stream_layout-in-NTriples.field-0.0 _ _ _ _ _
    c.find_pattern-pattern.ensures c.in_err-stream_layout-in-NTriples.ensures.err)

pub returns-in_ok-stream_layout-in-NTriples-clause-ok : goal.returns-in_ok-stream_layout-in-NTriples-clause-ok
returns-in_ok-stream_layout-in-NTriples-clause-ok g c =
    rw c.in-NTriples.is
    (found_printed (layout_view c.args.layout.now) c.args.given.now c.args.most _ _ _ _
    c.find_pattern-pattern.ensures c.in_ok-stream_layout-in-NTriples.ensures.ok)

pub returns-in-Some-clause-ok : goal.returns-in-Some-clause-ok
returns-in-Some-clause-ok g c =
    let v = layout_view c.args.layout.now in
    let ts = remaining_matches c.search.result in
    on_ok_weaker c.print_numbers.result
    (λ h. rw c.in-Numbers.is (
      numbers_lines (limited c.args.most ts),
      numbers_printed v c.args.given.now c.args.most c.find_pattern-pattern.result c.in-Some.pattern ts
          c.find_pattern-pattern.ensures c.in-Some.is c.search.ensures.items,
      h,
    )) c.print_numbers.ensures.ok

pub returns-in-Some-clause-err : goal.returns-in-Some-clause-err
returns-in-Some-clause-err g c =
    let v = layout_view c.args.layout.now in
    let ts = remaining_matches c.search.result in
    IfErr-weaker c.print_numbers.result _ _
    (λ e h. rw c.in-Numbers.is (inr (
      numbers_lines (limited c.args.most ts),
      numbers_printed v c.args.given.now c.args.most c.find_pattern-pattern.result c.in-Some.pattern ts
          c.find_pattern-pattern.ensures c.in-Some.is c.search.ensures.items,
      h,
    ))) c.print_numbers.ensures.cut

pub returns-in-None-clause-ok : goal.returns-in-None-clause-ok
returns-in-None-clause-ok g c =
    rw c.in-Numbers.is (
      [],
      no_numbers (layout_view c.args.layout.now) c.args.given.now c.args.most c.find_pattern-pattern.result
          c.find_pattern-pattern.ensures c.in-None.is,
      Appends-nil _,
    )

pub returns-in_ok-line-in-Count-clause-ok : goal.returns-in_ok-line-in-Count-clause-ok
returns-in_ok-line-in-Count-clause-ok g c =
    on_ok_weaker c.write_text.result
    (λ h. rw c.in-Count.is (
      c.in_ok-line-in-Count.line.items,
      count_printed (layout_view c.args.layout.now) c.args.given.now c.args.most
          (matches_if_given (layout_view c.args.layout.now) c.find_pattern-pattern.result) _ _
          c.find_pattern-pattern.ensures c.count_layout_matches.ensures c.in_ok-line-in-Count.ensures,
      rw c.deref.ensures.value at h,
    )) c.write_text.ensures.ok

pub returns-in_ok-line-in-Count-clause-err : goal.returns-in_ok-line-in-Count-clause-err
returns-in_ok-line-in-Count-clause-err g c =
    IfErr-weaker c.write_text.result _ _
    (λ e h. rw c.in-Count.is (inr (
      c.in_ok-line-in-Count.line.items,
      count_printed (layout_view c.args.layout.now) c.args.given.now c.args.most
          (matches_if_given (layout_view c.args.layout.now) c.find_pattern-pattern.result) _ _
          c.find_pattern-pattern.ensures c.count_layout_matches.ensures c.in_ok-line-in-Count.ensures,
      line_cut e c.in_ok-line-in-Count.line.items _ _ c.deref.ensures.value h,
    ))) c.write_text.ensures.failed
