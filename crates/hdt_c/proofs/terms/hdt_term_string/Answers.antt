-- If there is no string there is no term.
use mathlib.Core.Path.{refl}
use Rattle.std.proofs.Common.{inl, inr}
use Rattle.hdt_c.specs.TermParts.{term_of_kind}
use Rattle.hdt_c.proofs.TermLaws.{no_term}
use Rattle.hdt_c.proofs.terms.hdt_term_string.Goals as goal

pub returns-in-Ok-None : goal.returns-in-Ok-None
returns-in-Ok-None c = inr (
  refl,
  inl (
    refl,
    no_term (term_of_kind c.args.kind c.args.text.now c.args.suffix.now) c.in-Ok-None.field-0
        c.in-Ok-None.field-0-is c.in-Ok-None.ensures,
  ),
)
