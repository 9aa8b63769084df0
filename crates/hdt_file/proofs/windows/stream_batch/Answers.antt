use Rattle.std.proofs.Common.{arith}
use Rattle.std.proofs.lemmas.Result.{err_from_is_err_and}
use Rattle.hdt_file.specs.Graph.{layout_view}
use Rattle.hdt_file.proofs.StreamingLaws.{begins_with, ends_past, goes_on_at, stops_at, stops_here}
use Rattle.hdt_file.proofs.windows.stream_batch.Goals as goal

pub triples-init : goal.triples-init
triples-init g c = record { cached = c.requires.cached; goes_on = begins_with _ _ _ _ _ _ c.in_ok-reserve.ensures.same.0 c.in_ok-reserve.ensures.same.1 }

pub returns-in_err-reserve-clause-err : goal.returns-in_err-reserve-clause-err
returns-in_err-reserve-clause-err g c =
    let p = err_from_is_err_and c.from_residual.result c.from_residual.ensures.1 in
    rw (p.1, p.2)
    (stops_here (layout_view c.args.layout.now) c.args.triples.now c.args.pending.now _ _ c.requires.lines)

pub stream_line-requires-clause-line : goal.stream_line-requires-clause-line
stream_line-requires-clause-line g c = c.requires.lines c.triples.at (0, 0, 0) c.triples-test.true

pub triples-preserved : goal.triples-preserved
triples-preserved g c =
    let l = c.triples in
    record {
      cached = c.in_ok-stream_line.ensures.kept;
      goes_on = goes_on_at (layout_view c.args.layout.now) c.args.triples.now l.at c.args.pending.now l.pending
          c.stream_line.new.pending _ _ _ _ _ _ c.triples-test.true l.invariant.goes_on
          c.in_ok-stream_line.ensures.ok;
    }

pub returns-in_err-stream_line-clause-err : goal.returns-in_err-stream_line-clause-err
returns-in_err-stream_line-clause-err g c =
    let l = c.triples in
    let p = err_from_is_err_and c.from_residual-in_err-stream_line.result c.from_residual-in_err-stream_line.ensures.1 in
    rw (p.1, p.2)
    (stops_at (layout_view c.args.layout.now) c.args.triples.now l.at c.in_err-stream_line.field-0.0
    c.args.pending.now l.pending _ _ _ _ _ _ c.triples-test.true l.invariant.goes_on c.requires.lines
    c.in_err-stream_line.ensures.err)

pub returns-clause-ok : goal.returns-clause-ok
returns-clause-ok g c =
    let l = c.triples in
    ends_past (layout_view c.args.layout.now) c.args.triples.now l.at c.args.pending.now l.pending _ _ _ _
    (omega (arith, c.triples-test.false)) l.invariant.goes_on
