-- Completeness of term errors: if a check of the table fails, parsing fails there.
use Rattle.std.proofs.Common.{inl, inr, arith, ◌≡◌, ℕ, Bool, true, false, eqb, List, [], ◌∷◌, ◌++◌, None, Result, Ok}
use Rattle.std.proofs.Common.{Err, refl, sym, ap, subst, ◌∙◌}
use Rattle.std.specs.Prelude.{◌||◌, IsUtf8, encode_utf8_all}
use Rattle.std.specs.Char.{is_ascii_alphabetic}
use Rattle.std.specs.Str.{chars}
use Rattle.std.proofs.lemmas.Str.{encodes-chars}
use Rattle.hdt_terms.specs.declared.fault.FailedCheck.{FailedCheck}
use Rattle.hdt_terms.specs.declared.escaped_tokens.Token.TheVariants.{Iri, Quoted}
use Rattle.hdt_terms.specs.Chars.{is_absolute, is_label_start, is_whitespace}
use Rattle.hdt_terms.specs.Labels.{label_bytes}
use Rattle.hdt_terms.specs.Tags.{tag_len}
use Rattle.hdt_terms.specs.Grammar.{EncodesContent, IsWhitespace}
use Rattle.hdt_terms.specs.ContentErrors.{ContentCheckFails}
use Rattle.hdt_terms.specs.TermErrors.{DoesNotBeginWith, syntax_at, relative_at, IriCheckFails, no_iri, in_iri}
use Rattle.hdt_terms.specs.TermErrors.{relative, BeginsLabel, SuffixCheckFails, no_tag, no_caret, no_datatype}
use Rattle.hdt_terms.specs.TermErrors.{is_term_start, TermCheckFails, no_term, iri, blank, string, suffix}
use Rattle.hdt_terms.specs.TermParsing.{◌>>=◌, token_content, iri_at, blank_at, skip_whitespace, tag_at, datatype_at}
use Rattle.hdt_terms.specs.TermParsing.{suffix_at, with_suffix, literal_at, term_at}
use Rattle.std.proofs.lemmas.Bool.{cases_Bool}
use Rattle.std.proofs.lemmas.Bool.Decides.{eqb_tells}
use Rattle.hdt_terms.proofs.AsciiBorders.{behind_ascii}
use Rattle.hdt_terms.proofs.ContentCompleteness.{pieces_again}
use Rattle.hdt_terms.proofs.TermCompleteness.{skip_whitespace-blanks}
use Rattle.hdt_terms.proofs.ContentErrorCompleteness.{stops_again}

-- ---- IRIs

no_iri_again : (bytes : List ℕ) → DoesNotBeginWith (λ c. eqb c 60) bytes → iri_at bytes ≡ Err (syntax_at bytes)
unfolding iri_at
no_iri_again [] h = refl
no_iri_again (c ∷ rest) h = rw h refl

in_iri_again : (rest : List ℕ) (s : FailedCheck) → ContentCheckFails Iri rest s → iri_at (60 ∷ rest) ≡ Err s
unfolding iri_at
in_iri_again rest s h = rw (stops_again Iri rest s h) refl

relative_again : (inner value more : List ℕ) → EncodesContent Iri inner value → is_absolute value ≡ false
    → iri_at (60 ∷ (inner ++ 62 ∷ more)) ≡ Err (relative_at (60 ∷ (inner ++ 62 ∷ more)))
unfolding iri_at
relative_again inner value more i h =
    let body : token_content Iri 0 (inner ++ 62 ∷ more) ≡ Ok (value, more) =
    rw (i.whole, i.means) (pieces_again Iri i.pieces more i.each) in
    rw (body, h) refl

pub iri_again : (bytes : List ℕ) (s : FailedCheck) → IriCheckFails bytes s → iri_at bytes ≡ Err s
iri_again bytes s (no_iri h is) = no_iri_again bytes h ∙ ap (λ (t : FailedCheck). Err t) (sym is)
iri_again bytes s (in_iri rest whole h) = ap iri_at whole ∙ in_iri_again rest s h
iri_again bytes s (relative inner value more i whole h is) =
    ap iri_at whole ∙ relative_again inner value more i h ∙ ap (λ (bs : List ℕ). Err (relative_at bs)) (sym whole)
    ∙ ap (λ (t : FailedCheck). Err t) (sym is)

-- ---- blank nodes

label_none : (cs text : List ℕ) → IsUtf8 text → chars text ≡ cs → ¬ (BeginsLabel (95 ∷ 58 ∷ text))
    → label_bytes cs ≡ None
label_none [] text utf8 is none = refl
label_none (c ∷ cs) text utf8 is none = elim (cases_Bool (is_label_start c)) [
  | inl p ↦ absurd (none (
    c,
    encode_utf8_all cs,
    p,
    ap (λ (bs : List ℕ). 95 ∷ 58 ∷ bs) (sym (encodes-chars text utf8) ∙ ap encode_utf8_all is),
  ))
  | inr p ↦ rw p refl
]

blank_none : (rest : List ℕ) → IsUtf8 (95 ∷ rest) → ¬ (BeginsLabel (95 ∷ rest))
    → blank_at (95 ∷ rest) ≡ Err (syntax_at (95 ∷ rest))
unfolding blank_at
blank_none [] utf8 none = refl
blank_none (v ∷ text) utf8 none = elim (eqb_tells v 58) [
  | inl p ↦
      let behind = behind_ascii 58 text (omega arith)
      (subst (λ (b : ℕ). IsUtf8 (b ∷ text)) p.1 (behind_ascii 95 (v ∷ text) (omega arith) utf8)) in
      rw (p.0, label_none (chars text) text behind refl (subst (λ (b : ℕ). ¬ (BeginsLabel (95 ∷ b ∷ text))) p.1 none))
      refl
  | inr p ↦ rw p.0 refl
]

-- ---- suffixes

no_letter-len : (rest : List ℕ) → DoesNotBeginWith is_ascii_alphabetic rest → tag_len rest ≡ None
no_letter-len [] h = refl
no_letter-len (c ∷ rest) h = rw h refl

no_tag_again : (before rest : List ℕ) → IsWhitespace before → DoesNotBeginWith is_ascii_alphabetic rest
    → suffix_at (before ++ 64 ∷ rest) ≡ Err (syntax_at (64 ∷ rest))
unfolding suffix_at tag_at
no_tag_again before rest whitespace h =
    rw (skip_whitespace-blanks before (64 ∷ rest) whitespace, no_letter-len rest h) refl

no_second : (rest : List ℕ) → DoesNotBeginWith (λ c. eqb c 94) rest
    → datatype_at (94 ∷ rest) ≡ Err (syntax_at (94 ∷ rest))
unfolding datatype_at
no_second [] h = refl
no_second (c ∷ rest) h = rw h refl

no_caret_again : (before rest : List ℕ) → IsWhitespace before → DoesNotBeginWith (λ c. eqb c 94) rest
    → suffix_at (before ++ 94 ∷ rest) ≡ Err (syntax_at (94 ∷ rest))
unfolding suffix_at
no_caret_again before rest whitespace h = rw (skip_whitespace-blanks before (94 ∷ rest) whitespace) (no_second rest h)

no_blanks : (rest : List ℕ) → DoesNotBeginWith is_whitespace rest → skip_whitespace rest ≡ rest
no_blanks [] h = refl
no_blanks (c ∷ rest) h = rw h refl

no_datatype_again : (before behind rest : List ℕ) (s : FailedCheck) → IsWhitespace before → IsWhitespace behind
    → DoesNotBeginWith is_whitespace rest → IriCheckFails rest s → suffix_at (before ++ 94 ∷ 94 ∷ (behind ++ rest))
    ≡ Err s
unfolding suffix_at datatype_at
no_datatype_again before behind rest s whitespace between begins h =
    let read : iri_at (skip_whitespace (behind ++ rest)) ≡ Err s =
    ap iri_at (skip_whitespace-blanks behind rest between ∙ no_blanks rest begins) ∙ iri_again rest s h in
    rw (skip_whitespace-blanks before (94 ∷ 94 ∷ (behind ++ rest)) whitespace, read) refl

suffix_again : (bytes : List ℕ) (s : FailedCheck) → SuffixCheckFails bytes s → suffix_at bytes ≡ Err s
suffix_again bytes s (no_tag before rest whitespace whole h is) = ap suffix_at whole
    ∙ no_tag_again before rest whitespace h ∙ ap (λ (t : FailedCheck). Err t) (sym is)
suffix_again bytes s (no_caret before rest whitespace whole h is) = ap suffix_at whole
    ∙ no_caret_again before rest whitespace h ∙ ap (λ (t : FailedCheck). Err t) (sym is)
suffix_again bytes s (no_datatype before behind rest whitespace between whole begins h) = ap suffix_at whole
    ∙ no_datatype_again before behind rest s whitespace between begins h

-- ---- terms

or_false : (a b c : Bool) → (a || b || c) ≡ false → (a ≡ false) × (b ≡ false) × (c ≡ false)
or_false true b c h = absurd cc
or_false false true c h = absurd cc
or_false false false c h = (refl, refl, h)

no_term_again : (bytes : List ℕ) → DoesNotBeginWith is_term_start bytes → term_at bytes ≡ Err (syntax_at bytes)
unfolding term_at literal_at
no_term_again [] h = refl
no_term_again (c ∷ rest) h = let f = or_false (eqb c 60) (eqb c 95) (eqb c 34) h in rw (f.0, f.1, f.2) refl

at_iri : (rest : List ℕ) (s : FailedCheck) → iri_at (60 ∷ rest) ≡ Err s → term_at (60 ∷ rest) ≡ Err s
unfolding term_at
at_iri rest s e = rw e refl

at_blank : (rest : List ℕ) (s : FailedCheck) → blank_at (95 ∷ rest) ≡ Err s → term_at (95 ∷ rest) ≡ Err s
unfolding term_at
at_blank rest s e = rw e refl

at_string : (rest : List ℕ) (s : FailedCheck) → (token_content Quoted 0 rest >>= with_suffix) ≡ Err s
    → term_at (34 ∷ rest) ≡ Err s
unfolding term_at literal_at
at_string rest s e = e

suffix_fails : (inner value behind : List ℕ) (s : FailedCheck) → EncodesContent Quoted inner value
    → SuffixCheckFails behind s → (token_content Quoted 0 (inner ++ 34 ∷ behind) >>= with_suffix) ≡ Err s
suffix_fails inner value behind s i h =
    let body : token_content Quoted 0 (inner ++ 34 ∷ behind) ≡ Ok (value, behind) =
    rw (i.whole, i.means) (pieces_again Quoted i.pieces behind i.each) in
    rw (body, suffix_again behind s h) refl

pub table_again : (bytes : List ℕ) (s : FailedCheck) → IsUtf8 bytes → TermCheckFails bytes s → term_at bytes ≡ Err s
table_again bytes s utf8 (no_term h is) = no_term_again bytes h ∙ ap (λ (t : FailedCheck). Err t) (sym is)
table_again bytes s utf8 (iri rest whole h) = ap term_at whole
    ∙ at_iri rest s (ap iri_at (sym whole) ∙ iri_again bytes s h)
table_again bytes s utf8 (blank rest whole none is) =
    ap term_at whole ∙ at_blank rest s
    (blank_none rest (subst IsUtf8 whole utf8) (subst (λ (bs : List ℕ). ¬ (BeginsLabel bs)) whole none)
    ∙ ap (λ (bs : List ℕ). Err (syntax_at bs)) (sym whole) ∙ ap (λ (t : FailedCheck). Err t) (sym is))
table_again bytes s utf8 (string rest whole h) =
    ap term_at whole ∙ at_string rest s
    (ap (λ (r : Result (List ℕ × List ℕ) FailedCheck). r >>= with_suffix) (stops_again Quoted rest s h))
table_again bytes s utf8 (suffix inner value behind i whole h) = ap term_at whole
    ∙ at_string (inner ++ 34 ∷ behind) s (suffix_fails inner value behind s i h)
