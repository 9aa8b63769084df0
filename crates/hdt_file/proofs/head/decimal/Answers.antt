use Rattle.std.proofs.Common.{◌∙◌, List, ℕ, arith, subst, sym}
use Rattle.std.specs.Str.Parse.{ParsesUnsigned}
use Rattle.std.proofs.lemmas.Bool.{eqb-false, eqb-true}
use Rattle.hdt_file.proofs.DecimalLaws.{no_number, not_utf8, parsed, with_plus}
use Rattle.hdt_file.proofs.head.decimal.Goals as goal

pub returns-then-is_empty : goal.returns-then-is_empty
returns-then-is_empty c =
    no_number c.args.text.now
    (λ v small h. omega (arith, h.digits.0, eqb-true _ _ (sym c.is_empty.ensures ∙ c.if-is_empty.true)))

pub returns-then-text-eq43 : goal.returns-then-text-eq43
returns-then-text-eq43 c =
    with_plus c.args.text.now _ c.if-text-eq43.true
    (omega (arith, eqb-false _ _ (sym c.is_empty.ensures ∙ c.if-is_empty.false)))

pub returns-in_default : goal.returns-in_default
returns-in_default c = not_utf8 c.args.text.now c.in_default.ensures.cases.0

pub returns : goal.returns
returns c =
    c.ok.ensures.value
    ∙ parsed c.args.text.now _ c.parse.result c.if-text-eq43.false
    (omega (arith, eqb-false _ _ (sym c.is_empty.ensures ∙ c.if-is_empty.false)))
    (subst (λ (text : List ℕ). ParsesUnsigned 64 10 text c.parse.result) c.in-Ok.ensures.cases.0
    c.parse.ensures.value.0)
