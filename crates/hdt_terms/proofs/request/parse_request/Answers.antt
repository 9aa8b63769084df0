use Rattle.std.proofs.Common.{inr, sym, ◌∙◌, ap, Err}
use Rattle.hdt_terms.proofs.LineLaws.{not_utf8_line, bare_line, read_line, fails_line}
use Rattle.hdt_terms.proofs.request.parse_request.Goals as goal

pub returns-in-Err : goal.returns-in-Err
returns-in-Err c = inr (not_utf8_line c.args.text.now _ c.in-Err.ensures.0 ∙ ap Err (sym c.in-Err.ensures.1))

pub returns-then-is_blank_or_comment : goal.returns-then-is_blank_or_comment
returns-then-is_blank_or_comment c =
    bare_line c.args.text.now _ c.in-Ok.ensures (sym c.is_blank_or_comment.ensures ∙ c.if-is_blank_or_comment.true)

pub returns-in-Ok-parse_pattern : goal.returns-in-Ok-parse_pattern
returns-in-Ok-parse_pattern c =
    let read = c.in-Ok-parse_pattern.ensures in (
      read.0,
      read_line c.args.text.now _ c.in-Ok.ensures read.0 (sym c.is_blank_or_comment.ensures
          ∙ c.if-is_blank_or_comment.false) read.1,
      read.2,
    )

pub returns-in-Err-parse_pattern : goal.returns-in-Err-parse_pattern
returns-in-Err-parse_pattern c =
    fails_line c.args.text.now _ c.in-Ok.ensures c.in-Err-parse_pattern.error c.locate_error.result
    (sym c.is_blank_or_comment.ensures
    ∙ c.if-is_blank_or_comment.false) c.in-Err-parse_pattern.ensures c.locate_error.ensures
