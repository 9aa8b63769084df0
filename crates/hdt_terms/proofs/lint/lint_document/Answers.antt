use Rattle.std.proofs.Common.{◌∷◌, ◌++◌, ◌∙◌, [], arith, inl, inr, length, refl}
use Rattle.std.proofs.lemmas.Result.{err_from_is_err_and}
use Rattle.hdt_terms.specs.LinesReader.{line_number}
use Rattle.hdt_terms.specs.Documents.{DocumentLine}
use Rattle.hdt_terms.specs.Lint.{numbered}
use Rattle.hdt_terms.proofs.DocumentLines.{begins_with, below_most, counted_on, cut_short, fault_behind, fewer_before}
use Rattle.hdt_terms.proofs.DocumentLines.{no_bytes, none_before, none_linted, none_read, nothing_linted}
use Rattle.hdt_terms.proofs.DocumentLines.{read_on, stops_at, writer_failed, wrote, wrote_all, wrote_prefix}
use Rattle.hdt_terms.proofs.LineStarts.{counted_start, linted_start, whole_of_start}
use Rattle.hdt_terms.proofs.lint.lint_document.Goals as goal

pub returns-in_err-lines-clause-stopped : goal.returns-in_err-lines-clause-stopped
returns-in_err-lines-clause-stopped g c =
    let p = err_from_is_err_and c.from_residual.result c.from_residual.ensures.1 in
    rw (p.1, p.2) (nothing_linted _ _ _ _ _ _)

pub lines-init : goal.lines-init
lines-init g c = record {
  linted = (
    [],
    none_read c.in_ok-lines.lines _ c.in_ok-lines.ensures,
    none_linted _ _ _ _ _ _ _ c.new-linter.ensures.kept c.new-linter.ensures.reported c.new-linter.ensures.faulty,
    refl,
    none_before _ _,
  );
  within = omega arith;
  keep = c.new-linter.ensures.keep;
  kept = refl;
  reported = refl;
  input = refl;
  kept_count = no_bytes _;
  reported_count = no_bytes _;
}

pub returns-in-Err-clause-stopped : goal.returns-in-Err-clause-stopped
returns-in-Err-clause-stopped g c =
    let inv = c.lines.invariant.linted in
    let going = c.is_another_wanted.ensures.going c.lines-test.true in
    record {
      lines = inv.0;
      are = begins_with c.lines.lines _ _ inv.0 inv.1;
      behind = fault_behind c.in-Err.fault c.lines.lines _ _ _ inv.0 inv.1 going c.in-Err.ensures.fault;
      kept = wrote_prefix _ _ _ _ c.lines.linter.kept.items inv.2.kept_is c.flush_before_error.ensures.kept;
      reported = wrote_prefix _ _ _ _ c.lines.linter.reported.items inv.2.reported_is
          c.flush_before_error.ensures.reported;
    }

pub returns-in_err-lint_line-clause-stopped : goal.returns-in_err-lint_line-clause-stopped
returns-in_err-lint_line-clause-stopped g c =
    let inv = c.lines.invariant.linted in
    let p = err_from_is_err_and c.from_residual-in_err-lint_line.result c.from_residual-in_err-lint_line.ensures.1 in
    rw (p.1, p.2) (cut_short c.args.longest c.args.keep c.lines.lines _ _ _ _ _ _ _ inv.0 _ inv.1 (inl refl)
    (c.lines.linter.kept.items, inv.2.kept_is) (c.lines.linter.reported.items, inv.2.reported_is))

pub returns-in_err-written-clause-stopped : goal.returns-in_err-written-clause-stopped
returns-in_err-written-clause-stopped g c =
    let inv = c.lines.invariant.linted in
    let p = err_from_is_err_and c.from_residual-in_err-written.result c.from_residual-in_err-written.ensures.1 in
    let failed = c.in_err-written.ensures in
    let lint = rw c.line_number-number.ensures at c.in_ok-lint_line.ensures in
    let held = c.in-Ok.ensures.does in
    let whole = whole_of_start _ c.in-Ok.n c.lines.lines c.next_line_start.new.self _ _
    c.next_line_start.new.bytes.items held in
    let number = line_number c.next_line_start.new.self in
    let line : DocumentLine = numbered number (length held.text) (held.text ++ held.end) in
    let more = read_on (length held.text) c.lines.lines c.next_line_start.new.self _ _ _ (held.text ++ held.end) inv.0
    inv.1 (c.is_another_wanted.ensures.going c.lines-test.true) whole in
    let linted = linted_start c.args.longest c.args.keep inv.0 number c.in-Ok.n held.text held.end
    c.next_line_start.new.bytes.items _ _ _ _ _ _ c.lint_line.new.self.kept.items c.lint_line.new.self.reported.items _
    c.lint_line.new.self.faulty held.len held.bytes_are inv.2 (rw c.lines.invariant.keep at lint.kept) lint.reported
    lint.faulty in
    rw (p.1, p.2) (cut_short c.args.longest c.args.keep c.next_line_start.new.self _ _ _ _ _ _ _ (inv.0 ++ line
    ∷ []) c.in_err-written.field-0.0 more (inr (failed.err.0, failed.err.1))
    (wrote_prefix _ _ _ _ c.lint_line.new.self.kept.items linted.kept_is failed.kept_part)
    (wrote_prefix _ _ _ _ c.lint_line.new.self.reported.items linted.reported_is failed.reported_part))

pub returns-in_err-written-clause-write : goal.returns-in_err-written-clause-write
returns-in_err-written-clause-write g c =
    let inv = c.lines.invariant in
    let p = err_from_is_err_and c.from_residual-in_err-written.result c.from_residual-in_err-written.ensures.1 in
    rw (p.1, p.2) (writer_failed c.in_err-written.field-0.0 _ _ _ _ _ _ _ _ _ _ _ _ _ _ inv.kept inv.reported
    inv.kept_count inv.reported_count c.in_err-written.ensures.err)

pub lines-preserved : goal.lines-preserved
lines-preserved g c =
    let inv = c.lines.invariant.linted in
    let done = c.in_ok-written.ensures in
    let lint = rw c.line_number-number.ensures at c.in_ok-lint_line.ensures in
    let held = c.in-Ok.ensures.does in
    let whole = whole_of_start _ c.in-Ok.n c.lines.lines c.next_line_start.new.self _ _
    c.next_line_start.new.bytes.items held in
    let number = line_number c.next_line_start.new.self in
    let line : DocumentLine = numbered number (length held.text) (held.text ++ held.end) in
    let more = read_on (length held.text) c.lines.lines c.next_line_start.new.self _ _ _ (held.text ++ held.end) inv.0
    inv.1 (c.is_another_wanted.ensures.going c.lines-test.true) whole in
    let linted = linted_start c.args.longest c.args.keep inv.0 number c.in-Ok.n held.text held.end
    c.next_line_start.new.bytes.items _ _ _ _ _ _ c.lint_line.new.self.kept.items c.lint_line.new.self.reported.items _
    c.lint_line.new.self.faulty held.len held.bytes_are inv.2 (rw c.lines.invariant.keep at lint.kept) lint.reported
    lint.faulty in
    record {
      linted = (
        inv.0 ++ line ∷ [],
        more,
        record {
          kept_is = wrote _ _ _ _ c.lint_line.new.self.kept.items c.write_both_if_long.new.linter.kept.items
              linted.kept_is done.kept;
          reported_is = wrote _ _ _ _ c.lint_line.new.self.reported.items c.write_both_if_long.new.linter.reported.items
              linted.reported_is done.reported;
          faulty_is = done.others.1 ∙ linted.faulty_is;
        },
        counted_on c.args.longest inv.0 line c.lines.count _ _ inv.3 (counted_start c.args.longest number c.in-Ok.n _
            held.text held.end c.next_line_start.new.bytes.items held.len held.bytes_are
            (c.from.ensures ∙ lint.count)) refl,
        fewer_before c.args.longest inv.0 line c.lines.count c.args.most inv.3
            (c.is_another_wanted.ensures.fewer c.lines-test.true),
      );
      within = rw c.from.ensures
          (below_most c.lines.count c.args.most c.in_ok-lint_line.field-0
          (c.is_another_wanted.ensures.fewer c.lines-test.true));
      keep = done.others.0 ∙ lint.keep ∙ c.lines.invariant.keep;
      kept = done.writer_unfailed.0 ∙ c.lines.invariant.kept;
      reported = done.writer_unfailed.1 ∙ c.lines.invariant.reported;
      input = c.in-Ok.ensures.reader_unfailed ∙ c.lines.invariant.input;
      kept_count = done.kept_count _ c.lines.invariant.kept_count;
      reported_count = done.reported_count _ c.lines.invariant.reported_count;
    }

pub returns-in_err-write_both_if_long-clause-stopped : goal.returns-in_err-write_both_if_long-clause-stopped
returns-in_err-write_both_if_long-clause-stopped g c =
    let inv = c.lines.invariant.linted in
    let p = err_from_is_err_and c.from_residual-in_err-write_both_if_long.result
    c.from_residual-in_err-write_both_if_long.ensures.1 in
    let failed = c.in_err-write_both_if_long.ensures in
    rw (p.1, p.2) (cut_short c.args.longest c.args.keep c.lines.lines _ _ _ _ _ _ _ inv.0
    c.in_err-write_both_if_long.field-0.0 inv.1
    (inr (failed.err.0, failed.err.1)) (wrote_prefix _ _ _ _ c.lines.linter.kept.items inv.2.kept_is failed.kept_part)
    (wrote_prefix _ _ _ _ c.lines.linter.reported.items inv.2.reported_is failed.reported_part))

pub returns-in_err-write_both_if_long-clause-write : goal.returns-in_err-write_both_if_long-clause-write
returns-in_err-write_both_if_long-clause-write g c =
    let inv = c.lines.invariant in
    let p = err_from_is_err_and c.from_residual-in_err-write_both_if_long.result
    c.from_residual-in_err-write_both_if_long.ensures.1 in
    rw (p.1, p.2) (writer_failed c.in_err-write_both_if_long.field-0.0 _ _ _ _ _ _ _ _ _ _ _ _ _ _ inv.kept
    inv.reported inv.kept_count inv.reported_count c.in_err-write_both_if_long.ensures.err)

pub returns-clause-ok : goal.returns-clause-ok
returns-clause-ok g c =
    let inv = c.lines.invariant.linted in
    let done = c.in_ok-write_both_if_long.ensures in
    let all = done.whole refl in
    record {
      lines = inv.0;
      are = stops_at c.lines.count c.args.most c.lines.lines _ _ inv.0 inv.1 c.lines.invariant.within
          (c.is_another_wanted.ensures.done c.lines-test.false);
      count = inv.3;
      fewer = inv.4;
      kept = wrote_all _ _ _ c.write_both_if_long-2.new.linter.kept.items
          (wrote _ _ _ _ c.lines.linter.kept.items c.write_both_if_long-2.new.linter.kept.items inv.2.kept_is done.kept)
          all.0;
      reported = wrote_all _ _ _ c.write_both_if_long-2.new.linter.reported.items
          (wrote _ _ _ _ c.lines.linter.reported.items c.write_both_if_long-2.new.linter.reported.items
          inv.2.reported_is done.reported) all.1;
    }
