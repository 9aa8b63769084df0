use Rattle.std.proofs.Common.{inr, sym, ◌∙◌, ap, refl, Err}
use Rattle.hdt_terms.proofs.LineLaws.{not_utf8_line, bare_line, read_line, fails_line}
use Rattle.hdt_terms.proofs.raw_request.parse_raw_request.Goals as goal

pub returns-in-Err : goal.returns-in-Err
returns-in-Err c = inr (not_utf8_line c.args.text.now _ c.in-Err.ensures.0 ∙ ap Err (sym c.in-Err.ensures.1))

pub returns-then-is_blank_or_comment : goal.returns-then-is_blank_or_comment
returns-then-is_blank_or_comment c =
    bare_line c.args.text.now _ c.in-Ok.ensures (sym c.is_blank_or_comment.ensures ∙ c.if-is_blank_or_comment.true)

pub returns-in-Ok-parse_raw_strings : goal.returns-in-Ok-parse_raw_strings
returns-in-Ok-parse_raw_strings c = (
  record {
    s = c.parse_raw_strings.new.s.items;
    p = c.parse_raw_strings.new.p.items;
    o =
        c.parse_raw_strings.new.o.items;
  },
  read_line c.args.text.now _ c.in-Ok.ensures _ (sym c.is_blank_or_comment.ensures
      ∙ c.if-is_blank_or_comment.false) c.in-Ok-parse_raw_strings.ensures,
  record {
    given_is = rw (
      c.is_given.ensures,
      c.is_given-in-Ok-parse_raw_strings.ensures,
      c.is_given-in-Ok-parse_raw_strings-2.ensures,
      c.deref.ensures.value,
      c.deref-in-Ok-parse_raw_strings.ensures.value,
      c.deref-in-Ok-parse_raw_strings-2.ensures.value,
    ) refl;
    s_is = refl;
    p_is = refl;
    o_is = refl;
  },
)

pub returns-in-Err-parse_raw_strings : goal.returns-in-Err-parse_raw_strings
returns-in-Err-parse_raw_strings c =
    fails_line c.args.text.now _ c.in-Ok.ensures c.in-Err-parse_raw_strings.error c.locate_error.result
    (sym c.is_blank_or_comment.ensures
    ∙ c.if-is_blank_or_comment.false) c.in-Err-parse_raw_strings.ensures c.locate_error.ensures
