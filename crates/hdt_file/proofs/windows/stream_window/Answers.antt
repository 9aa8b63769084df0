use Rattle.std.proofs.Common.{sym, ◌∙◌, length, ap, arith}
use Rattle.std.proofs.lemmas.Bool.{eqb-true}
use Rattle.std.proofs.lemmas.List.{length-drop}
use Rattle.std.proofs.lemmas.Result.{err_from_is_err_and}
use Rattle.hdt_file.specs.Graph.{layout_view}
use Rattle.hdt_file.proofs.StreamingLaws.{begins, ends_none, goes_on_part, stops_part, stops_there, writable_first}
use Rattle.hdt_file.proofs.StreamingLaws.{writable_rest}
use Rattle.hdt_file.proofs.windows.stream_window.Goals as goal

pub parts-init : goal.parts-init
parts-init g c = record {
  cached = c.requires.cached;
  window = c.requires.window;
  lines = c.requires.lines;
  goes_on = begins _ _ _ _ _;
}

pub returns-in_err-count-clause-err : goal.returns-in_err-count-clause-err
returns-in_err-count-clause-err g c =
    let l = c.parts in
    let p = err_from_is_err_and c.from_residual.result c.from_residual.ensures.1 in
    rw (p.1, p.2)
    (stops_there (layout_view c.args.layout.now) c.args.triples.now l.rest.now c.args.pending.now l.pending _ _ _ _
    l.invariant.goes_on l.invariant.lines)

pub stream_lines-requires-clause-lines : goal.stream_lines-requires-clause-lines
stream_lines-requires-clause-lines g c =
    rw c.split_at.ensures.front
    (writable_first (layout_view c.args.layout.now) c.in_ok-count.count c.parts.rest.now c.parts.invariant.lines)

pub returns-in_err-stream_lines-clause-err : goal.returns-in_err-stream_lines-clause-err
returns-in_err-stream_lines-clause-err g c =
    let l = c.parts in
    let p = err_from_is_err_and c.from_residual-in_err-stream_lines.result
    c.from_residual-in_err-stream_lines.ensures.1 in
    rw (p.1, p.2)
    (stops_part (layout_view c.args.layout.now) c.args.triples.now l.rest.now c.in_ok-count.count
    c.in_err-stream_lines.field-0.0 c.args.pending.now l.pending _ _ _ _ _ _ l.invariant.goes_on l.invariant.lines
    (rw c.split_at.ensures.front at c.in_err-stream_lines.ensures.err))

pub parts-smaller : goal.parts-smaller
parts-smaller g c =
    let l = c.parts in
    omega (
      arith,
      ap length c.split_at.ensures.back,
      length-drop c.in_ok-count.count l.rest.now,
      c.in_ok-count.ensures.some,
      c.in_ok-count.ensures.within,
    )

pub parts-preserved : goal.parts-preserved
parts-preserved g c =
    let l = c.parts in
    record {
      cached = c.in_ok-stream_lines.ensures.kept;
      window = c.fill_first.ensures.window;
      lines = rw c.split_at.ensures.back
          (writable_rest (layout_view c.args.layout.now) c.in_ok-count.count l.rest.now l.invariant.lines);
      goes_on = rw c.split_at.ensures.back
          (goes_on_part (layout_view c.args.layout.now) c.args.triples.now l.rest.now c.in_ok-count.count
          c.args.pending.now l.pending c.stream_lines.new.pending _ _ _ _ _ _ l.invariant.goes_on
          (rw c.split_at.ensures.front at c.in_ok-stream_lines.ensures.ok));
    }

pub returns-clause-ok : goal.returns-clause-ok
returns-clause-ok g c =
    let l = c.parts in
    ends_none (layout_view c.args.layout.now) c.args.triples.now l.rest.now c.args.pending.now l.pending _ _ _ _
    (eqb-true _ _ (sym c.is_empty.ensures ∙ c.parts-test.false)) l.invariant.goes_on
