-- Completeness for terms: parsing a text that encodes a term returns that term.
use Rattle.std.proofs.Common.{◌≡◌, ◌≢◌, ℕ, Bool, true, false, List, [], ◌∷◌, ◌++◌, Ok, refl, sym, ap, subst, ◌∙◌}
use Rattle.std.proofs.Common.{append_assoc, inl, inr, arith}
use Rattle.std.specs.Prelude.{IsUtf8}
use Rattle.std.specs.Str.{chars, bytes_eq}
use Rattle.std.proofs.lemmas.List.{append-nil}
use Rattle.std.proofs.lemmas.Str.{chars-nil}
use Rattle.std.proofs.lemmas.Slice.Eq.{bytes_eq-Decides}
use Rattle.hdt_terms.specs.declared.escaped_tokens.Token.TheVariants.{Quoted}
use Rattle.hdt_terms.specs.declared.triple.Term.{Term}
use Rattle.hdt_terms.specs.declared.triple.Term.TheVariants as terms
use Rattle.hdt_terms.specs.declared.triple.Suffix.{Suffix}
use Rattle.hdt_terms.specs.declared.triple.Suffix.TheVariants.{Plain, Tag, Datatype}
use Rattle.hdt_terms.specs.Chars.{is_whitespace}
use Rattle.hdt_terms.specs.Labels.{label_rest}
use Rattle.hdt_terms.specs.Terms.{xsd_string}
use Rattle.hdt_terms.specs.Grammar.{IsWhitespace, EncodesIri, EncodesBlankNode, EncodesDatatype, EncodesSuffix}
use Rattle.hdt_terms.specs.Grammar.{EncodesLiteral, EncodesTermForm}
use Rattle.hdt_terms.specs.TermParsing.{token_content, iri_at, skip_whitespace, tag_at, datatype_of, datatype_at}
use Rattle.hdt_terms.specs.TermParsing.{suffix_at, literal_at, term_at}
use Rattle.hdt_terms.proofs.Bools.{and_first, and_second}
use Rattle.hdt_terms.proofs.ContentCompleteness.{pieces_again, iri_again}
use Rattle.hdt_terms.proofs.LabelSoundness.{blank_again}
use Rattle.hdt_terms.proofs.TagSoundness.{Ends, tag_again}
use Rattle.hdt_terms.proofs.AsciiBorders.{behind_ascii}

pub skip_whitespace-blanks : (whitespace rest : List ℕ) → IsWhitespace whitespace
    → skip_whitespace (whitespace ++ rest) ≡ skip_whitespace rest
skip_whitespace-blanks [] rest h = refl
skip_whitespace-blanks (c ∷ whitespace) rest h =
    simp (and_first (is_whitespace c) _ h) (skip_whitespace-blanks whitespace rest (and_second (is_whitespace c) _ h))

-- ---- the suffix

-- what follows does not continue the suffix
abbrev pub Closes : Suffix → List ℕ → Type 0
Closes Plain more = suffix_at more ≡ Ok (Plain, more)
Closes (Tag tag) more = Ends more
Closes (Datatype iri) more = Unit {0}

xsd_is : datatype_of xsd_string ≡ Plain
xsd_is = refl

other_is : (iri : List ℕ) → iri ≢ xsd_string → datatype_of iri ≡ Datatype iri
other_is iri h = pick (bytes_eq iri xsd_string) refl
  where
    pick : (b : Bool) → bytes_eq iri xsd_string ≡ b → datatype_of iri ≡ Datatype iri
    pick true e = absurd (h ((bytes_eq-Decides iri xsd_string).0 e))
    pick false e = rw e refl

pub tag_behind : (front tag more : List ℕ) → IsWhitespace front
    → suffix_at (front ++ 64 ∷ (tag ++ more)) ≡ tag_at (64 ∷ (tag ++ more))
unfolding suffix_at
tag_behind front tag more whitespace = rw (skip_whitespace-blanks front (64 ∷ (tag ++ more)) whitespace) refl

datatype_behind : (front behind spelled iri more : List ℕ) → IsWhitespace front → IsWhitespace behind
    → EncodesIri spelled iri
    → suffix_at (front ++ 94 ∷ 94 ∷ (behind ++ (spelled ++ more))) ≡ Ok (datatype_of iri, more)
unfolding suffix_at datatype_at
datatype_behind front behind spelled iri more whitespace between s =
    let begins : skip_whitespace (spelled ++ more) ≡ spelled ++ more = rw s.whole refl in
    let read : iri_at (skip_whitespace (behind ++ (spelled ++ more))) ≡ Ok (iri, more) =
    ap iri_at (skip_whitespace-blanks behind (spelled ++ more) between ∙ begins) ∙ iri_again spelled iri more s in
    rw (skip_whitespace-blanks front (94 ∷ 94 ∷ (behind ++ (spelled ++ more))) whitespace, read) refl

pub datatype_again : (text iri more : List ℕ) → EncodesDatatype text iri
    → suffix_at (text ++ more) ≡ Ok (datatype_of iri, more)
datatype_again text iri more s =
    ap suffix_at (ap (λ (bs : List ℕ). bs ++ more) s.whole
    ∙ append_assoc s.before (94 ∷ 94 ∷ (s.behind ++ s.spelled)) more
    ∙ ap (λ (bs : List ℕ). s.before ++ 94 ∷ 94 ∷ bs) (append_assoc s.behind s.spelled more))
    ∙ datatype_behind s.before s.behind s.spelled iri more s.whitespace.0 s.whitespace.1 s.datatype

plain_again : (text more : List ℕ) → EncodesSuffix text Plain → Closes Plain more
    → suffix_at (text ++ more) ≡ Ok (Plain, more)
plain_again text more (inl none) closes = ap (λ (bs : List ℕ). suffix_at (bs ++ more)) none ∙ closes
plain_again text more (inr s) closes = datatype_again text xsd_string more s ∙ ap (λ (d : Suffix). Ok (d, more)) xsd_is

pub suffix_again : (text more : List ℕ) (suffix : Suffix) → EncodesSuffix text suffix → Closes suffix more
    → suffix_at (text ++ more) ≡ Ok (suffix, more)
suffix_again text more Plain s closes = plain_again text more s closes
suffix_again text more (Tag tag) s closes =
    ap suffix_at (ap (λ (bs : List ℕ). bs ++ more) s.whole ∙ append_assoc s.before (64 ∷ tag) more)
    ∙ tag_behind s.before tag more s.whitespace ∙ tag_again tag more s.form closes
suffix_again text more (Datatype iri) s closes = datatype_again text iri more s.0
    ∙ ap (λ (d : Suffix). Ok (d, more)) (other_is iri s.1)

-- ---- a term

-- what follows does not continue the term
abbrev pub ClosesTerm : Term → List ℕ → Type 0
ClosesTerm (terms.Iri iri) more = Unit {0}
ClosesTerm (terms.Blank label) more = label_rest (chars more) ≡ []
ClosesTerm (terms.Literal value suffix) more = Closes suffix more

iri_term : (text iri more : List ℕ) → EncodesIri text iri → term_at (text ++ more) ≡ Ok (terms.Iri iri, more)
unfolding term_at
iri_term text iri more s =
    let read : iri_at (60 ∷ ((s.inner ++ 62 ∷ []) ++ more)) ≡ Ok (iri, more) =
    ap (λ (bs : List ℕ). iri_at (bs ++ more)) (sym s.whole) ∙ iri_again text iri more s in
    rw (s.whole, read) refl

blank_term : (text label more : List ℕ) → IsUtf8 text → EncodesBlankNode text label → label_rest (chars more) ≡ []
    → term_at (text ++ more) ≡ Ok (terms.Blank label, more)
unfolding term_at
blank_term text label more utf8 s ends =
    let content = behind_ascii 58 label (omega arith)
    (behind_ascii 95 (58 ∷ label) (omega arith) (subst IsUtf8 s.whole utf8)) in
    rw (s.whole, blank_again label more (record { utf8 = content; form = s.form }) ends) refl

literal_term : (text value more : List ℕ) (suffix : Suffix) → EncodesLiteral text value suffix → Closes suffix more
    → term_at (text ++ more) ≡ Ok (terms.Literal value suffix, more)
unfolding term_at literal_at
literal_term text value more suffix s closes =
    let i = s.content in
    let cut : (s.inner ++ 34 ∷ s.tail) ++ more ≡ s.inner ++ 34 ∷ (s.tail ++ more) =
    append_assoc s.inner (34 ∷ s.tail) more in
    let body : token_content Quoted 0 (s.inner ++ 34 ∷ (s.tail ++ more)) ≡ Ok (value, s.tail ++ more) =
    rw (i.whole, i.means) (pieces_again Quoted i.pieces (s.tail ++ more) i.each) in
    rw (s.whole, cut, body, suffix_again s.tail more suffix s.behind closes) refl

pub term_again : (text more : List ℕ) (term : Term) → IsUtf8 text → EncodesTermForm text term → ClosesTerm term more
    → term_at (text ++ more) ≡ Ok (term, more)
term_again text more (terms.Iri iri) utf8 s closes = iri_term text iri more s
term_again text more (terms.Blank label) utf8 s closes = blank_term text label more utf8 s closes
term_again text more (terms.Literal value suffix) utf8 s closes = literal_term text value more suffix s closes

nothing_follows : (suffix : Suffix) → Closes suffix []
unfolding suffix_at
nothing_follows Plain = refl
nothing_follows (Tag tag) = record { letters = refl; part = refl }
nothing_follows (Datatype iri) = tt

no_more : (term : Term) → ClosesTerm term []
no_more (terms.Iri iri) = tt
no_more (terms.Blank label) = ap label_rest chars-nil
no_more (terms.Literal value suffix) = nothing_follows suffix

-- the complete text
pub whole_again : (text : List ℕ) (term : Term) → IsUtf8 text → EncodesTermForm text term → term_at text ≡ Ok (term, [])
whole_again text term utf8 s = ap term_at (sym (append-nil text)) ∙ term_again text [] term utf8 s (no_more term)
