use Rattle.std.proofs.Common.{◌≡◌, ◌∷◌, ◌++◌, ◌∙◌, [], ap, arith, drop, inl, inr, length, map, refl, sym, take}
use Rattle.std.proofs.Common.{take-append-drop}
use Rattle.std.proofs.lemmas.List.{length-map}
use Rattle.std.proofs.lemmas.Result.{err_from_is_err_and}
use Rattle.hdt_wire.specs.Counted.{inner}
use Rattle.hdt_terms.specs.LinesReader.{line_number}
use Rattle.hdt_terms.specs.Documents.{DocumentLine}
use Rattle.hdt_terms.specs.Lint.{numbered}
use Rattle.hdt_terms.proofs.DocumentLines.{all_read, begins_with, fault_behind, none_read, read_on}
use Rattle.hdt_terms.proofs.SplitLines.{at_most_one, collected_on, count_on, each_pending, each_wrote, each_wrote_all}
use Rattle.hdt_terms.proofs.SplitLines.{empty_texts, none_collected, not_read, nothing_split, stopped_at_line}
use Rattle.hdt_terms.proofs.SplitLines.{stopped_at_write, taken_within, written_back}
use Rattle.hdt_terms.proofs.split.split_document.Goals as goal

pub returns-in_err-lines-clause-stopped : goal.returns-in_err-lines-clause-stopped
returns-in_err-lines-clause-stopped g c =
    let p = err_from_is_err_and c.from_residual.result c.from_residual.ensures.1 in
    rw (p.1, p.2) (nothing_split _ _ _ _)

pub returns-in_err-pending-clause-stopped : goal.returns-in_err-pending-clause-stopped
returns-in_err-pending-clause-stopped g c =
    let p = err_from_is_err_and c.from_residual-in_err-pending.result c.from_residual-in_err-pending.ensures.1 in
    rw (p.1, p.2) (nothing_split _ _ _ _)

pub lines-init : goal.lines-init
lines-init g c =
    let texts = empty_texts (λ text. text.items) c.in_ok-pending.pending.items _ c.in_ok-pending.ensures in
    let outs = length-map c.args.outs.now (λ out. g.W.Write.contents (inner out)) in
    let items = length-map c.in_ok-pending.pending.items (λ text. text.items) in
    let new = c.new-splitter.ensures in
    record {
      split = (
        [],
        none_read c.in_ok-lines.lines _ c.in_ok-lines.ensures,
        none_collected _ _ _ _ _ _ (omega (arith, texts.0, outs, items))
            (λ part lt. texts.1 part (omega (arith, lt, outs))) (rw (new.1, new.2) refl) new.3,
      );
      count = rw new.3 (omega arith);
      taken = rw c.in_ok-lines.ensures (omega arith);
      parts = new.0;
      part = omega (arith, new.2, c.requires.parts.0);
      outs = refl;
      pending = texts.0;
      well = refl;
      input = refl;
    }

pub returns-in-Err-clause-stopped : goal.returns-in-Err-clause-stopped
returns-in-Err-clause-stopped g c =
    let inv = c.lines.invariant.split in
    let going = sym c.has_ended.ensures ∙ c.lines-test.true in
    record {
      lines = inv.0;
      are = begins_with c.lines.lines _ _ inv.0 inv.1;
      right = inv.2.right;
      behind = inr (fault_behind c.in-Err.fault c.lines.lines _ _ _ inv.0 inv.1 going c.in-Err.ensures.fault);
      parts = each_pending _ _ _ (map (λ text. text.items) c.lines.pending.items) inv.2.gains;
    }

pub returns-in_err-assign_part-clause-stopped : goal.returns-in_err-assign_part-clause-stopped
returns-in_err-assign_part-clause-stopped g c =
    let inv = c.lines.invariant.split in
    let p = err_from_is_err_and c.from_residual-in_err-assign_part.result
    c.from_residual-in_err-assign_part.ensures.1 in
    let wrong = rw c.line_number-number.ensures at c.in_err-assign_part.ensures.wrong in
    let line : DocumentLine =
    numbered (line_number c.next_whole_line.new.self) c.in-Ok.n c.next_whole_line.new.bytes.items in
    let more = read_on c.in-Ok.n c.lines.lines c.next_whole_line.new.self _ _ _ c.next_whole_line.new.bytes.items inv.0
    inv.1 (sym c.has_ended.ensures ∙ c.lines-test.true) c.in-Ok.ensures.does in
    rw (p.1, p.2) (stopped_at_line _ c.lines.lines c.next_whole_line.new.self _ _ _ _ _ _
    (map (λ text. text.items) c.lines.pending.items) _ _ inv.0 line c.in_err-assign_part.field-0.0 inv.1 more inv.2
    wrong)

pub returns-in_err-assign_part-clause-read : goal.returns-in_err-assign_part-clause-read
returns-in_err-assign_part-clause-read g c =
    let p = err_from_is_err_and c.from_residual-in_err-assign_part.result
    c.from_residual-in_err-assign_part.ensures.1 in
    let wrong = rw c.line_number-number.ensures at c.in_err-assign_part.ensures.wrong in
    let line : DocumentLine =
    numbered (line_number c.next_whole_line.new.self) c.in-Ok.n c.next_whole_line.new.bytes.items in
    rw (p.1, p.2) (λ read. absurd (not_read c.in_err-assign_part.field-0.0 line wrong read))

pub returns-in_err-collect-clause-stopped : goal.returns-in_err-collect-clause-stopped
returns-in_err-collect-clause-stopped g c =
    let inv = c.lines.invariant.split in
    let p = err_from_is_err_and c.from_residual-in_err-collect.result c.from_residual-in_err-collect.ensures.1 in
    let line : DocumentLine =
    numbered (line_number c.next_whole_line.new.self) c.in-Ok.n c.next_whole_line.new.bytes.items in
    let more = read_on c.in-Ok.n c.lines.lines c.next_whole_line.new.self _ _ _ c.next_whole_line.new.bytes.items inv.0
    inv.1 (sym c.has_ended.ensures ∙ c.lines-test.true) c.in-Ok.ensures.does in
    rw (p.1, p.2) (stopped_at_line _ c.lines.lines c.next_whole_line.new.self _ _ _ _ _ _
    (map (λ text. text.items) c.lines.pending.items) _ _ inv.0 line _ inv.1 more inv.2 (inl refl))

pub lines-preserved : goal.lines-preserved
lines-preserved g c =
    let inv = c.lines.invariant.split in
    let going = sym c.has_ended.ensures ∙ c.lines-test.true in
    let bytes = c.next_whole_line.new.bytes.items in
    let line : DocumentLine = numbered (line_number c.next_whole_line.new.self) c.in-Ok.n bytes in
    let more = read_on c.in-Ok.n c.lines.lines c.next_whole_line.new.self _ _ _ bytes inv.0 inv.1 going
    c.in-Ok.ensures.does in
    let outs = length-map c.args.outs.now (λ out. g.W.Write.contents (inner out)) in
    let parts = c.lines.invariant.parts ∙ sym outs in
    let placed = rw c.line_number-number.ensures at c.in_ok-assign_part.ensures in
    let text = rw (
      c.line_number-number.ensures,
      c.deref_mut.ensures.value,
      placed.line,
    ) at c.in_ok-collect.ensures.text in
    let others = rw c.deref_mut.ensures.value at c.in_ok-collect.ensures.others in
    let len = rw c.deref_mut.ensures.value at c.in_ok-collect.ensures.len in
    let old = c.lines.pending.items in
    let new = c.collect.new.pending in
    let lens = length-map new (λ text. text.items) ∙ len ∙ sym (length-map old (λ text. text.items)) in
    let collected =
    collected_on _ _ inv.0 line _ _ (map (λ text. text.items) old) (map (λ text. text.items) new)
    (record { number = c.lines.splitter.number; part = c.lines.splitter.part })
    (record { number = c.assign_part.new.self.number; part = c.assign_part.new.self.part }) c.lines.splitter.report
    c.assign_part.new.self.report bytes inv.2 placed.right (rw parts at placed.last) lens others text
    (sym (take-append-drop c.in-Ok.n bytes)) placed.lines placed.triples placed.blank in
    let back = written_back c.lines.pending.len new old len (sym c.lines.pending.ok.0) in
    let value = c.deref_mut-in-lines.ensures.value ∙ back in
    let part = placed.part (omega (arith, c.lines.invariant.part, c.lines.invariant.parts)) in
    let wrote = rw value at c.in_ok-write_part.ensures in
    let pending = c.write_part.new.pending in
    let len2 : length new ≡ c.lines.pending.len = len ∙ sym c.lines.pending.ok.0 in
    let whole = ap (λ l. take c.lines.pending.len (pending ++ drop (length pending) l)) back
    ∙ written_back c.lines.pending.len pending new wrote.lens.1 len2 in
    record {
      split = (
        inv.0 ++ line ∷ [],
        more,
        rw whole (record {
          right = collected.right;
          gains = each_wrote _ _ _ _ (map (λ text. text.items) new)
              (map (λ text. text.items) pending) collected.gains wrote.ok;
          triple_line_is = collected.triple_line_is;
          report_is = collected.report_is;
        }),
      );
      count =
          count_on c.in-Ok.n c.lines.lines c.next_whole_line.new.self _ _ bytes c.lines.splitter.report.triples _
          c.assign_part.new.self.report.triples c.in-Ok.ensures.does going c.lines.invariant.count
          (at_most_one line) placed.triples;
      taken = taken_within c.next_whole_line.new.self _ _ _ more;
      parts = placed.same ∙ c.lines.invariant.parts;
      part = omega (arith, part, c.lines.invariant.parts);
      outs = wrote.lens.0 ∙ c.lines.invariant.outs;
      pending = rw whole (wrote.lens.1 ∙ len ∙ c.lines.invariant.pending);
      well = wrote.writer_unfailed ∙ c.lines.invariant.well;
      input = c.in-Ok.ensures.reader_unfailed ∙ c.lines.invariant.input;
    }

pub returns-in_err-write_part-clause-stopped : goal.returns-in_err-write_part-clause-stopped
returns-in_err-write_part-clause-stopped g c =
    let inv = c.lines.invariant.split in
    let going = sym c.has_ended.ensures ∙ c.lines-test.true in
    let bytes = c.next_whole_line.new.bytes.items in
    let line : DocumentLine = numbered (line_number c.next_whole_line.new.self) c.in-Ok.n bytes in
    let more = read_on c.in-Ok.n c.lines.lines c.next_whole_line.new.self _ _ _ bytes inv.0 inv.1 going
    c.in-Ok.ensures.does in
    let outs = length-map c.args.outs.now (λ out. g.W.Write.contents (inner out)) in
    let parts = c.lines.invariant.parts ∙ sym outs in
    let placed = rw c.line_number-number.ensures at c.in_ok-assign_part.ensures in
    let text = rw (
      c.line_number-number.ensures,
      c.deref_mut.ensures.value,
      placed.line,
    ) at c.in_ok-collect.ensures.text in
    let others = rw c.deref_mut.ensures.value at c.in_ok-collect.ensures.others in
    let len = rw c.deref_mut.ensures.value at c.in_ok-collect.ensures.len in
    let old = c.lines.pending.items in
    let new = c.collect.new.pending in
    let lens = length-map new (λ text. text.items) ∙ len ∙ sym (length-map old (λ text. text.items)) in
    let collected =
    collected_on _ _ inv.0 line _ _ (map (λ text. text.items) old) (map (λ text. text.items) new)
    (record { number = c.lines.splitter.number; part = c.lines.splitter.part })
    (record { number = c.assign_part.new.self.number; part = c.assign_part.new.self.part }) c.lines.splitter.report
    c.assign_part.new.self.report bytes inv.2 placed.right (rw parts at placed.last) lens others text
    (sym (take-append-drop c.in-Ok.n bytes)) placed.lines placed.triples placed.blank in
    let back = written_back c.lines.pending.len new old len (sym c.lines.pending.ok.0) in
    let value = c.deref_mut-in-lines.ensures.value ∙ back in
    let part = placed.part (omega (arith, c.lines.invariant.part, c.lines.invariant.parts)) in
    let failed = rw value at c.in_err-write_part.ensures in
    let p = err_from_is_err_and c.from_residual-in_err-write_part.result c.from_residual-in_err-write_part.ensures.1 in
    rw (p.1, p.2) (stopped_at_write _ c.next_whole_line.new.self _ _ _ _ _ _ (map (λ text. text.items) new) _ _ (inv.0
    ++ line ∷ []) c.in_err-write_part.field-0.0 c.assign_part.new.self.part more collected failed.err
    (omega (arith, part, parts)) failed.part)

pub returns-in_err-write_all_parts-clause-stopped : goal.returns-in_err-write_all_parts-clause-stopped
returns-in_err-write_all_parts-clause-stopped g c =
    let inv = c.lines.invariant.split in
    let p = err_from_is_err_and c.from_residual-in_err-write_all_parts.result
    c.from_residual-in_err-write_all_parts.ensures.1 in
    let failed = rw c.deref_mut-2.ensures.value at c.in_err-write_all_parts.ensures in
    rw (p.1, p.2) (stopped_at_write _ c.lines.lines _ _ _ _ _ _
    (map (λ text. text.items) c.lines.pending.items) _ _ inv.0 c.in_err-write_all_parts.field-0.0 failed.err.0 inv.1
    inv.2 failed.err.2 (omega (
      arith,
      failed.err.1,
      c.lines.invariant.outs,
      length-map c.args.outs.now (λ out. g.W.Write.contents (inner out)),
    )) failed.part)

pub returns-clause-ok : goal.returns-clause-ok
returns-clause-ok g c =
    let inv = c.lines.invariant.split in
    let done = rw c.deref_mut-2.ensures.value at c.in_ok-write_all_parts.ensures in
    record {
      lines = inv.0;
      are = all_read c.lines.lines _ _ inv.0 inv.1 (sym c.has_ended.ensures ∙ c.lines-test.false);
      right = inv.2.right;
      report_is = inv.2.report_is;
      parts = each_wrote_all _ _ _ _ (map (λ text. text.items) c.lines.pending.items) inv.2.gains done.ok;
    }
