use Rattle.std.proofs.Common.{Err, Some, ap, inl, inr, sym, ◌∙◌}
use Rattle.hdt_terms.proofs.LineCompleteness.{line_again}
use Rattle.hdt_terms.proofs.LineLaws.{bare_line, not_utf8_line}
use Rattle.hdt_terms.proofs.LineSoundness.{line_fault, line_found}
use Rattle.hdt_terms.proofs.line.parse_line_strings.Goals as goal

pub returns-in-Err-clause-strings : goal.returns-in-Err-clause-strings
returns-in-Err-clause-strings c =
    inr (not_utf8_line c.args.text.now _ c.in-Err.ensures.0 ∙ ap Err (sym c.in-Err.ensures.1))

pub returns-then-is_blank_or_comment-clause-strings : goal.returns-then-is_blank_or_comment-clause-strings
returns-then-is_blank_or_comment-clause-strings c =
    bare_line c.args.text.now _ c.in-Ok.ensures (sym c.is_blank_or_comment.ensures ∙ c.if-is_blank_or_comment.true)

pub returns-in-Ok-parse_triple_strings-clause-strings : goal.returns-in-Ok-parse_triple_strings-clause-strings
returns-in-Ok-parse_triple_strings-clause-strings c =
    let read = c.in-Ok-parse_triple_strings.ensures in (
      read.0,
      line_again c.args.text.now (Some read.0) (line_found c.args.text.now read.0 c.in-Ok.ensures read.1),
      read.2,
    )

pub returns-in-Err-parse_triple_strings-clause-strings : goal.returns-in-Err-parse_triple_strings-clause-strings
returns-in-Err-parse_triple_strings-clause-strings c =
    elim c.in-Err-parse_triple_strings.ensures [
      | inl e ↦ inl e
      | inr e ↦ inr (line_fault c.args.text.now _ c.in-Ok.ensures (sym c.is_blank_or_comment.ensures
          ∙ c.if-is_blank_or_comment.false) e)
    ]
