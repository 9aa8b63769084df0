use Rattle.std.proofs.Common.{ℕ, List, ◌+◌, ◌∷◌, ◌++◌, ◌∙◌, Ok, [], ap, arith, inl, length, refl, sym}
use Rattle.std.proofs.KnownBytes.{Appends-nil}
use Rattle.std.proofs.lemmas.Result.{err_from_is_err_and}
use Rattle.hdt_wire.specs.Counted.{inner}
use Rattle.hdt_terms.specs.LinesReader.{line_number}
use Rattle.hdt_tool.proofs.Dialogues.{begun, cut_answer, cut_pending, front_answered, gained_all, gained_answer}
use Rattle.hdt_tool.proofs.Dialogues.{gained_on, gone_some, pending_or_held, lines_on, nothing_answered, reader_failed}
use Rattle.hdt_tool.proofs.Dialogues.{refused_behind, unread_line}
use Rattle.hdt_tool.specs.Faults.{fault_of_reason}
use Rattle.hdt_tool.proofs.dialogue.answer_requests.Goals as goal

pub returns-in_err-lines-clause-stopped : goal.returns-in_err-lines-clause-stopped
returns-in_err-lines-clause-stopped g c =
    let p = err_from_is_err_and c.from_residual.result c.from_residual.ensures.1 in
    rw (p.1, p.2) (nothing_answered c.lines_so_far.ensures.begins _ _ _ _ refl refl)

pub returns-in_err-answerer-clause-stopped : goal.returns-in_err-answerer-clause-stopped
returns-in_err-answerer-clause-stopped g c =
    let p = err_from_is_err_and c.from_residual-in_err-answerer.result c.from_residual-in_err-answerer.ensures.1 in
    rw (p.1, p.2) (nothing_answered c.lines_so_far.ensures.begins _ _ _ _ refl refl)

pub returns-in_err-buffers-clause-stopped : goal.returns-in_err-buffers-clause-stopped
returns-in_err-buffers-clause-stopped g c =
    let p = err_from_is_err_and c.from_residual-in_err-buffers.result c.from_residual-in_err-buffers.ensures.1 in
    rw (p.1, p.2) (nothing_answered c.lines_so_far.ensures.begins _ _ _ _ refl refl)

pub add_answer-requires-clause-flags : goal.add_answer-requires-clause-flags
add_answer-requires-clause-flags g c = c.lines.invariant.13

pub lines-init : goal.lines-init
lines-init g c =
    let b = begun c.lines_so_far.ensures.begins c.in_ok-lines.lines
    (g.R.Read.remaining (inner c.args.input.now)) c.in_ok-lines.ensures in
    let p = c.new-pending.ensures in
    let a = c.in_ok-answerer.ensures in (
      [],
      [],
      b.0,
      (c.plain_report-report.ensures, refl),
      ([], sym p.0, Appends-nil _, p.1),
      omega (arith, ap length p.0, p.1),
      refl,
      refl,
      b.1,
      c.in_ok-buffers.ensures _,
      inl p.0,
      a.0,
      a.1,
      a.2,
    )

pub returns-in_err-flush-in-Ok-false-clause-stopped : goal.returns-in_err-flush-in-Ok-false-clause-stopped
returns-in_err-flush-in-Ok-false-clause-stopped g c =
    let inv = c.lines.invariant in
    let p = err_from_is_err_and c.from_residual-in_err-flush-in-Ok-false.result
    c.from_residual-in_err-flush-in-Ok-false.ensures.1 in
    rw (p.1, p.2) (cut_pending _ _ _ _ _ _ inv.0 c.lines.report inv.1 c.lines.pending.bytes.items
    c.lines.pending.written _ _ _ c.in_err-flush-in-Ok-false.field-0.0
    (gone_some _ _ _ _ inv.2) inv.3 inv.4 inv.6 c.in_err-flush-in-Ok-false.ensures.err)

pub returns-in-Ok-false-clause-ok : goal.returns-in-Ok-false-clause-ok
returns-in-Ok-false-clause-ok g c =
    let inv = c.lines.invariant in
    record {
      lines = inv.0;
      are = c.next_line.ensures.all _ inv.0 inv.2 (c.in-Ok-false.is ∙ ap Ok c.in-Ok-false.field-0-test);
      text = inv.1;
      answers = inv.3;
      written = gained_all _ _ _ inv.1 c.lines.pending.bytes.items _ inv.4 c.in_ok-flush-in-Ok-false.ensures.ok;
    }

pub returns-in_err-flush-in-Err-clause-stopped : goal.returns-in_err-flush-in-Err-clause-stopped
returns-in_err-flush-in-Err-clause-stopped g c =
    let inv = c.lines.invariant in
    let p = err_from_is_err_and c.from_residual-in_err-flush-in-Err.result
    c.from_residual-in_err-flush-in-Err.ensures.1 in
    rw (p.1, p.2) (cut_pending _ _ _ _ _ _ inv.0 c.lines.report inv.1 c.lines.pending.bytes.items
    c.lines.pending.written _ _ _ c.in_err-flush-in-Err.field-0.0
    (gone_some _ _ _ _ inv.2) inv.3 inv.4 inv.6 c.in_err-flush-in-Err.ensures.err)

pub returns-in-Err-clause-stopped : goal.returns-in-Err-clause-stopped
returns-in-Err-clause-stopped g c =
    let inv = c.lines.invariant in
    rw c.line_fault.ensures (unread_line _ _ c.lines.lines _ _ _ inv.0 c.lines.report inv.1 c.in-Err.fault inv.2
    inv.3
    (gained_all _ _ _ inv.1 c.lines.pending.bytes.items _ inv.4 c.in_ok-flush-in-Err.ensures.ok)
    (c.in_ok-flush-in-Err.ensures.writer_unfailed ∙ inv.6)
    (c.in-Err.ensures.fault _ inv.0 inv.2))

pub returns-in_err-accept-in-Ok-clause-stopped : goal.returns-in_err-accept-in-Ok-clause-stopped
returns-in_err-accept-in-Ok-clause-stopped g c =
    let p = err_from_is_err_and c.from_residual-in_err-accept-in-Ok.result
    c.from_residual-in_err-accept-in-Ok.ensures.1 in
    let inv = c.lines.invariant in
    let more = c.next_line.ensures.more _ inv.0 inv.2 (c.in-Ok-true.is ∙ ap Ok c.in-Ok-true.field-0-test) in
    let this = rw (c.line_number-line.ensures, c.deref.ensures.value, inv.11, inv.12) at c.in-Ok.ensures.ok in
    let whole = front_answered _ c.args.options
    (line_number c.next_line.new.lines) _ more.0 this.0 this.1 more.1 this.2 in
    rw (p.1, p.2) (cut_answer _ _ _ _ _ _ inv.0 (
      line_number c.next_line.new.lines,
      more.0,
    ) c.lines.report this.0 inv.1 c.lines.pending.bytes.items this.1 c.add_answer.new.out.items
    c.len-start.result c.lines.pending.written _ _ _
    c.in_err-accept-in-Ok.field-0.0 (gone_some _ _ _ _ inv.2) (gone_some _ _ _ _ more.2) inv.3 whole inv.4 this.3
    (c.len-start.ensures ∙ c.lines.pending.bytes.ok.0) inv.6 c.in_err-accept-in-Ok.ensures.err)

pub lines-preserved : goal.lines-preserved
lines-preserved g c =
    let inv = c.lines.invariant in
    let more = c.next_line.ensures.more _ inv.0 inv.2 (c.in-Ok-true.is ∙ ap Ok c.in-Ok-true.field-0-test) in
    let this = rw (c.line_number-line.ensures, c.deref.ensures.value, inv.11, inv.12) at c.in-Ok.ensures.ok in
    let answer = this.1 in
    let whole = front_answered _ c.args.options
    (line_number c.next_line.new.lines) _ more.0 this.0 answer more.1 this.2 in
    let line : ℕ × List ℕ = (line_number c.next_line.new.lines, more.0) in (
      inv.0 ++ line ∷ [],
      inv.1 ++ answer,
      more.2,
      rw this.4 (lines_on _ c.args.options inv.0 line c.lines.report this.0 inv.1 answer inv.3 whole),
      gained_on _ _ _ (inv.1 ++ answer) _ _ _ _
          (gained_answer _ _ inv.1 c.lines.pending.bytes.items answer _ _ inv.4 this.3) c.in_ok-accept-in-Ok.ensures.ok,
      c.in_ok-accept-in-Ok.ensures.fits,
      c.in_ok-accept-in-Ok.ensures.writer_unfailed ∙ inv.6,
      c.in-Ok-true.ensures.reader_unfailed ∙ inv.7,
      c.in-Ok-true.ensures.well,
      c.in-Ok.ensures.cached,
      pending_or_held _ c.has_buffered_line.result c.in_ok-accept-in-Ok.ensures.none
          c.has_buffered_line.ensures.if_true,
      inv.11,
      inv.12,
      inv.13,
    )

pub returns-in_err-flush-in-Err-add_answer-clause-stopped : goal.returns-in_err-flush-in-Err-add_answer-clause-stopped
returns-in_err-flush-in-Err-add_answer-clause-stopped g c =
    let inv = c.lines.invariant in
    let p = err_from_is_err_and c.from_residual-in_err-flush-in-Err-add_answer.result
    c.from_residual-in_err-flush-in-Err-add_answer.ensures.1 in
    rw (p.1, p.2) (cut_pending _ _ _ _ _ _ inv.0 c.lines.report inv.1 c.lines.pending.bytes.items
    c.lines.pending.written _ _ _ c.in_err-flush-in-Err-add_answer.field-0.0
    (gone_some _ _ _ _ inv.2) inv.3 inv.4 inv.6
    (rw c.in-Err-add_answer.ensures.unchanged at c.in_err-flush-in-Err-add_answer.ensures.err))

pub returns-in-Err-add_answer-clause-stopped : goal.returns-in-Err-add_answer-clause-stopped
returns-in-Err-add_answer-clause-stopped g c =
    let inv = c.lines.invariant in
    refused_behind _ _ _ _ inv.0 c.lines.report inv.1 _ (gone_some _ _ _ _ inv.2) inv.3
    (gained_all _ _ _ inv.1 c.lines.pending.bytes.items _ inv.4
    (rw c.in-Err-add_answer.ensures.unchanged at c.in_ok-flush-in-Err-add_answer.ensures.ok))
    (c.in_ok-flush-in-Err-add_answer.ensures.writer_unfailed ∙ inv.6) refl

pub returns-in-Err-clause-read : goal.returns-in-Err-clause-read
returns-in-Err-clause-read g c =
    λ is. c.in-Err.ensures.read (reader_failed c.in-Err.fault c.line_fault.result c.line_fault.ensures is)
    ∙ ap (λ (n : ℕ). n + 1) c.lines.invariant.7

pub returns-in-Err-clause-reader_reported : goal.returns-in-Err-clause-reader_reported
returns-in-Err-clause-reader_reported g c =
    λ other. c.in-Err.ensures.reader_reported
    (λ is. other (c.line_fault.ensures ∙ ap (fault_of_reason c.in-Err.fault) is)) ∙ c.lines.invariant.7

pub returns-in_err-accept-in-Ok-clause-reader_reported : goal.returns-in_err-accept-in-Ok-clause-reader_reported
returns-in_err-accept-in-Ok-clause-reader_reported g c =
    let p = err_from_is_err_and c.from_residual-in_err-accept-in-Ok.result
    c.from_residual-in_err-accept-in-Ok.ensures.1 in
    rw (p.1, p.2) (λ other. c.in-Ok-true.ensures.reader_unfailed ∙ c.lines.invariant.7)
