use Rattle.std.proofs.Common.{sym, ◌∙◌}
use Rattle.std.proofs.lemmas.Bool.{eqb-true}
use Rattle.std.proofs.lemmas.Result.{err_from_is_err_and}
use Rattle.hdt_file.specs.Graph.{layout_view}
use Rattle.hdt_file.proofs.StreamingLaws.{begins, ends_none, goes_on_part, stops_part, writable_first}
use Rattle.hdt_file.proofs.StreamingLaws.{writable_rest}
use Rattle.hdt_file.proofs.windows.stream_lines.Goals as goal

pub batches-init : goal.batches-init
batches-init g c = record {
  cached = c.requires.cached;
  lines = c.requires.lines;
  goes_on = begins _ _ _ _ _;
}

pub stream_batch-requires-clause-lines : goal.stream_batch-requires-clause-lines
stream_batch-requires-clause-lines g c =
    rw c.split_at.ensures.front
    (writable_first (layout_view c.args.layout.now) c.min.result c.batches.unwritten.now c.batches.invariant.lines)

pub returns-in_err-stream_batch-clause-err : goal.returns-in_err-stream_batch-clause-err
returns-in_err-stream_batch-clause-err g c =
    let l = c.batches in
    let p = err_from_is_err_and c.from_residual.result c.from_residual.ensures.1 in
    rw (p.1, p.2)
    (stops_part (layout_view c.args.layout.now) c.args.triples.now l.unwritten.now c.min.result
    c.in_err-stream_batch.field-0.0 c.args.pending.now l.pending _ _ _ _ _ _ l.invariant.goes_on l.invariant.lines
    (rw c.split_at.ensures.front at c.in_err-stream_batch.ensures.err))

pub batches-preserved : goal.batches-preserved
batches-preserved g c =
    let l = c.batches in
    record {
      cached = c.in_ok-stream_batch.ensures.kept;
      lines = rw c.split_at.ensures.back
          (writable_rest (layout_view c.args.layout.now) c.min.result l.unwritten.now l.invariant.lines);
      goes_on = rw c.split_at.ensures.back
          (goes_on_part (layout_view c.args.layout.now) c.args.triples.now l.unwritten.now c.min.result
          c.args.pending.now l.pending c.stream_batch.new.pending _ _ _ _ _ _ l.invariant.goes_on
          (rw c.split_at.ensures.front at c.in_ok-stream_batch.ensures.ok));
    }

pub returns-clause-ok : goal.returns-clause-ok
returns-clause-ok g c =
    let l = c.batches in
    ends_none (layout_view c.args.layout.now) c.args.triples.now l.unwritten.now c.args.pending.now l.pending _ _ _ _
    (eqb-true _ _ (sym c.is_empty.ensures ∙ c.batches-test.false)) l.invariant.goes_on
