use Rattle.std.proofs.Common.{◌∷◌, sym, arith, refl}
use Rattle.hdt_terms.proofs.StringTerms.{no_text, never, IsText-behind, iri_is, iri_none}
use Rattle.hdt_terms.proofs.term_refs.parse_dictionary_string.Goals as goal

pub returns-then-not-is_text : goal.returns-then-not-is_text
returns-then-not-is_text c = no_text c.args.bytes.now (never c.if-not-is_text.ensures.1)

pub literal_of-requires : goal.literal_of-requires
literal_of-requires c = IsText-behind c.args.bytes.now c.in-Some.rest.now 34 (omega arith)
    (c.is_text.ensures.0 c.if-not-is_text.false) c.in-Some.ensures

pub blank_of-requires : goal.blank_of-requires
blank_of-requires c =
    let label = c.in-Some-behind.label.now in
    IsText-behind (58 ∷ label) label 58 (omega arith)
    (IsText-behind c.args.bytes.now (58 ∷ label) 95 (omega arith)
    (c.is_text.ensures.0 c.if-not-is_text.false) c.in-Some-behind.ensures) refl

pub returns-then-not-is_absolute : goal.returns-then-not-is_absolute
returns-then-not-is_absolute c =
    iri_none c.args.bytes.now (sym c.if-not-is_absolute.ensures) c.in_default.ensures c.in_default-behind.ensures

pub returns : goal.returns
returns c = iri_is c.args.bytes.now (c.is_text.ensures.0 c.if-not-is_text.false) (sym c.if-not-is_absolute.ensures)
