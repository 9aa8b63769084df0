-- The text that is written for a term of the grammar encodes it.
use Rattle.std.proofs.Common.{◌≡◌, ◌<◌, ℕ, Bool, true, false, eqb, List, [], ◌∷◌, ◌++◌, refl, sym, ap, subst, ◌∙◌}
use Rattle.std.proofs.Common.{append_assoc, inl, inr, ◌⊎◌, arith}
use Rattle.std.specs.Prelude.{not, IsUtf8}
use Rattle.std.specs.List.{list_all, flat_map}
use Rattle.std.proofs.lemmas.Bool.{eqb-true}
use Rattle.std.proofs.lemmas.Str.{IsUtf8-nil, IsUtf8-append, IsUtf8-from_ascii, encode_ascii}
use Rattle.std.proofs.lemmas.Str.Ascii.{IsAscii-nil, IsAscii-cons}
use Rattle.hdt_terms.specs.declared.escaped_tokens.Token.{Token}
use Rattle.hdt_terms.specs.declared.escaped_tokens.Token.TheVariants.{Iri, Quoted}
use Rattle.hdt_terms.specs.declared.triple.Term.{Term}
use Rattle.hdt_terms.specs.declared.triple.Term.TheVariants as terms
use Rattle.hdt_terms.specs.declared.triple.Suffix.{Suffix}
use Rattle.hdt_terms.specs.declared.triple.Suffix.TheVariants.{Plain, Tag, Datatype}
use Rattle.hdt_terms.specs.Terms.{IsIri, IsLiteralSuffix, IsNotXsdString, IsGrammarTerm}
use Rattle.hdt_terms.specs.Grammar.{Piece, raw, letter, piece_text, piece_value, IsTokenPiece, is_escapable}
use Rattle.hdt_terms.specs.Grammar.{closing_byte, EncodesContent, EncodesIri, EncodesSuffix, EncodesTermForm, Encodes}
use Rattle.hdt_terms.specs.Writing.{written_byte, string_byte, opening_byte, written_token, written_suffix, written}
use Rattle.hdt_terms.proofs.Bools.{and_first, and_second}
use Rattle.hdt_terms.proofs.FrontUtf8.{one_byte}
use Rattle.hdt_terms.proofs.StringTerms.{suffix_text}
use Rattle.hdt_terms.proofs.AsciiBorders.{around_ascii}

-- a byte is written as a piece that encodes it; a byte that needs an escape is ASCII, and so is its escape
pub record Written (token : Token) (c : ℕ) : Type 0 where
  pub piece : Piece
  pub fits : IsTokenPiece token piece
  pub spells : written_byte token c ≡ piece_text piece
  pub means : c ∷ [] ≡ piece_value piece
  pub plain : (written_byte token c ≡ c ∷ []) ⊎ ((c < 128) × IsUtf8 (piece_text piece))

two_ascii : (b c : ℕ) → b < 128 → c < 128 → IsUtf8 (b ∷ c ∷ [])
two_ascii b c first second =
    IsUtf8-from_ascii (b ∷ c ∷ []) (IsAscii-cons b (c ∷ []) first (IsAscii-cons c [] second IsAscii-nil))

-- an escape letter and its character
escaped_is : (e d c : ℕ) → IsTokenPiece Quoted (letter e d) → e < 128 → d < 128 → string_byte d ≡ 92 ∷ e ∷ [] → c ≡ d
    → Written Quoted c
escaped_is e d c fits small ascii spells is = record {
  piece = letter e d;
  fits = fits;
  spells = ap string_byte is ∙ spells;
  means = ap (λ (b : ℕ). b ∷ []) is ∙ sym (encode_ascii d ascii);
  plain = inr (omega arith, two_ascii 92 e (omega arith) small);
}

string_written : (p q r s : Bool) (c : ℕ) → eqb c 92 ≡ p → eqb c 34 ≡ q → eqb c 10 ≡ r → eqb c 13 ≡ s
    → not (eqb c 0) ≡ true → Written Quoted c
string_written true q r s c hp hq hr hs some =
    escaped_is 92 92 c refl (omega arith) (omega arith) refl (eqb-true c 92 hp)
string_written false true r s c hp hq hr hs some =
    escaped_is 34 34 c refl (omega arith) (omega arith) refl (eqb-true c 34 hq)
string_written false false true s c hp hq hr hs some =
    escaped_is 110 10 c refl (omega arith) (omega arith) refl (eqb-true c 10 hr)
string_written false false false true c hp hq hr hs some =
    escaped_is 114 13 c refl (omega arith) (omega arith) refl (eqb-true c 13 hs)
string_written false false false false c hp hq hr hs some = record {
  piece = raw c;
  fits = rw (some, hp, hq, hr, hs) refl;
  spells = rw (hp, hq, hr, hs) refl;
  means = refl;
  plain = inl (rw (hp, hq, hr, hs) refl);
}

byte_written : (token : Token) (c : ℕ) → is_escapable token c ≡ true → Written token c
byte_written Iri c h = record { piece = raw c; fits = h; spells = rw h refl; means = refl; plain = inl (rw h refl) }
byte_written Quoted c h = string_written (eqb c 92) (eqb c 34) (eqb c 10) (eqb c 13) c refl refl refl refl h

-- ---- the content of a token

pieces_written : (token : Token) (text : List ℕ) → list_all (is_escapable token) text ≡ true
    → EncodesContent token (flat_map (written_byte token) text) text
pieces_written token [] h = record { pieces = []; each = tt; whole = refl; means = refl }
pieces_written token (c ∷ text) h =
    let first = byte_written token c (and_first (is_escapable token c) _ h) in
    let more = pieces_written token text (and_second (is_escapable token c) _ h) in
    record {
      pieces = first.piece ∷ more.pieces;
      each = (first.fits, more.each);
      whole = ap (λ (bs : List ℕ). bs ++ flat_map (written_byte token) text) first.spells
          ∙ ap (λ (bs : List ℕ). piece_text first.piece ++ bs) more.whole;
      means = ap (λ (bs : List ℕ). bs ++ text) first.means
          ∙ ap (λ (bs : List ℕ). piece_value first.piece ++ bs) more.means;
    }

utf8_written : (token : Token) (text front : List ℕ) → list_all (is_escapable token) text ≡ true
    → IsUtf8 (front ++ text) → IsUtf8 (front ++ flat_map (written_byte token) text)
utf8_written token [] front h utf8 = utf8
utf8_written token (c ∷ text) front h utf8 =
    let w = byte_written token c (and_first (is_escapable token c) _ h) in
    let rest = and_second (is_escapable token c) _ h in
    elim w.plain [
      | inl same ↦
          subst (λ (bs : List ℕ). IsUtf8 (front ++ (bs ++ flat_map (written_byte token) text))) (sym same)
          (subst IsUtf8 (append_assoc front (c ∷ []) (flat_map (written_byte token) text))
          (utf8_written token text (front ++ c ∷ []) rest (subst IsUtf8 (sym (append_assoc front (c ∷ []) text)) utf8)))
      | inr other ↦
          let cut = around_ascii front c text other.0 utf8 in
          subst (λ (bs : List ℕ). IsUtf8 (front ++ (bs ++ flat_map (written_byte token) text))) (sym w.spells)
          (IsUtf8-append front _ cut.0
          (IsUtf8-append (piece_text w.piece) _ other.1 (utf8_written token text [] rest cut.1)))
    ]

ends_ascii : (token : Token) → IsUtf8 (opening_byte token ∷ []) × IsUtf8 (closing_byte token ∷ [])
ends_ascii Iri = (one_byte 60 (omega arith), one_byte 62 (omega arith))
ends_ascii Quoted = (one_byte 34 (omega arith), one_byte 34 (omega arith))

token_utf8 : (token : Token) (text : List ℕ) → list_all (is_escapable token) text ≡ true → IsUtf8 text
    → IsUtf8 (written_token token text)
token_utf8 token text h utf8 =
    let ends = ends_ascii token in
    IsUtf8-append (opening_byte token
    ∷ []) _ ends.0 (IsUtf8-append (flat_map (written_byte token) text) (closing_byte token
    ∷ []) (utf8_written token text [] h utf8) ends.1)

-- ---- a term

iri_written : (iri : List ℕ) → IsIri iri → EncodesIri (written_token Iri iri) iri
iri_written iri h = record {
  inner = flat_map (written_byte Iri) iri;
  content = pieces_written Iri iri h.each;
  whole =
      refl;
  absolute = h.absolute;
}

suffix_written : (suffix : Suffix) → IsLiteralSuffix suffix → IsNotXsdString suffix
    → EncodesSuffix (written_suffix suffix) suffix
suffix_written Plain h kept = inl refl
suffix_written (Tag tag) h kept = record { before = []; whitespace = refl; whole = refl; form = h }
suffix_written (Datatype iri) h kept = (
  record {
    before = [];
    behind = [];
    whitespace = (refl, refl);
    spelled = written_token Iri iri;
    whole = refl;
    datatype = iri_written iri h;
  },
  kept,
)

suffix_utf8 : (suffix : Suffix) → IsLiteralSuffix suffix → IsUtf8 (written_suffix suffix)
suffix_utf8 Plain h = IsUtf8-nil
suffix_utf8 (Tag tag) h = (suffix_text (Tag tag) h).utf8
suffix_utf8 (Datatype iri) h =
    IsUtf8-append (94 ∷ 94 ∷ []) (written_token Iri iri) (two_ascii 94 94 (omega arith) (omega arith))
    (token_utf8 Iri iri h.each h.utf8)

term_utf8 : (term : Term) → IsGrammarTerm term → IsUtf8 (written term)
unfolding written
term_utf8 (terms.Iri iri) h = token_utf8 Iri iri h.each h.utf8
term_utf8 (terms.Blank label) h =
    IsUtf8-append (95 ∷ 58 ∷ []) label (two_ascii 95 58 (omega arith) (omega arith)) h.utf8
term_utf8 (terms.Literal text suffix) h =
    IsUtf8-append (written_token Quoted text) (written_suffix suffix) (token_utf8 Quoted text h.0.no_zero h.0.utf8)
    (suffix_utf8 suffix h.1)

term_written : (term : Term) → IsGrammarTerm term → EncodesTermForm (written term) term
unfolding written
term_written (terms.Iri iri) h = iri_written iri h
term_written (terms.Blank label) h = record { whole = refl; form = h.form }
term_written (terms.Literal text suffix) h =
    let inner = flat_map (written_byte Quoted) text in
    record {
      inner = inner;
      tail = written_suffix suffix;
      content = pieces_written Quoted text h.0.no_zero;
      whole = ap (λ (bs : List ℕ). 34 ∷ bs) (append_assoc inner (34 ∷ []) (written_suffix suffix));
      behind = suffix_written suffix h.1 h.2;
    }

pub written-Encodes : (term : Term) → IsGrammarTerm term → Encodes (written term) term
written-Encodes term h = record { utf8 = term_utf8 term h; form = term_written term h }
