use Rattle.std.proofs.Common.{sym, subst, ◌∙◌, IsUtf8}
use Rattle.hdt_terms.proofs.AsciiBorders.{blanks_utf8, unblanked}
use Rattle.hdt_terms.proofs.chars.skip_whitespace.Goals as goal

pub returns-then-not-is_whitespace-clause-utf8 : goal.returns-then-not-is_whitespace-clause-utf8
returns-then-not-is_whitespace-clause-utf8 c = λ utf8.
    subst IsUtf8 (sym c.whitespace.invariant
    ∙ unblanked _ _ _ c.in-Some.ensures.cases.0 (sym c.is_whitespace.ensures ∙ c.if-not-is_whitespace.true))
    (blanks_utf8 c.args.bytes.now utf8)
