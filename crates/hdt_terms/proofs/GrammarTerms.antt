-- What a text encodes is a term of the grammar.
use Rattle.std.proofs.Common.{◌≡◌, ℕ, ◌<◌, ◌≤◌, Bool, true, eqb, List, [], ◌∷◌, ◌++◌, Some, None, refl, sym, ap, subst}
use Rattle.std.proofs.Common.{◌∙◌, append_assoc, inl, inr, arith}
use Rattle.std.specs.Prelude.{not, encode_utf8, IsUtf8}
use Rattle.std.specs.List.{list_all, AllByRecursion}
use Rattle.std.specs.Char.{IsScalar}
use Rattle.std.specs.Str.Parse.{digits_value}
use Rattle.std.proofs.lemmas.Str.{IsUtf8-append, IsUtf8-encode}
use Rattle.std.proofs.lemmas.Bool.Decides.{nat_tests}
use Rattle.std.proofs.lemmas.List.Folds.{list_all-append}
use Rattle.hdt_terms.specs.declared.escaped_tokens.Token.{Token}
use Rattle.hdt_terms.specs.declared.escaped_tokens.Token.TheVariants.{Iri, Quoted}
use Rattle.hdt_terms.specs.declared.triple.Term.{Term}
use Rattle.hdt_terms.specs.declared.triple.Term.TheVariants as terms
use Rattle.hdt_terms.specs.declared.triple.Suffix.{Suffix}
use Rattle.hdt_terms.specs.declared.triple.Suffix.TheVariants.{Plain, Tag, Datatype}
use Rattle.hdt_terms.specs.Chars.{is_string_char, is_whitespace, is_hex, hex_value, echar}
use Rattle.hdt_terms.specs.Terms.{IsIri, IsLiteralSuffix, IsNotXsdString, IsGrammarTerm}
use Rattle.hdt_terms.specs.Grammar.{Piece, raw, letter, short, long, piece_value, pieces_text, pieces_value, WritesHex}
use Rattle.hdt_terms.specs.Grammar.{IsTokenPiece, is_escapable, EncodesContent, EncodesIri, EncodesDatatype}
use Rattle.hdt_terms.specs.Grammar.{EncodesSuffix, EncodesTermForm, Encodes}
use Rattle.hdt_terms.proofs.Bools.{and_first, and_second, and_both}
use Rattle.hdt_terms.proofs.Cases.{chosen}
use Rattle.hdt_terms.proofs.Ranges.{echar_range, hex_ascii, blank_ascii, iri_char_beyond, other_beyond, encode_passes}
use Rattle.hdt_terms.proofs.AsciiBorders.{behind_ascii, around_ascii}

-- after bytes of a class of ASCII
pub behind_class : (class : ℕ → Bool) → ((c : ℕ) → class c ≡ true → c < 128) → (front bs : List ℕ)
    → list_all class front ≡ true → IsUtf8 (front ++ bs) → IsUtf8 bs
behind_class class ascii [] bs each utf8 = utf8
behind_class class ascii (c ∷ front) bs each utf8 =
    behind_class class ascii front bs (and_second (class c) _ each)
    (behind_ascii c (front ++ bs) (ascii c (and_first (class c) _ each)) utf8)

digits_hex : (ds : List ℕ) (c : ℕ) → hex_value ds ≡ Some c → list_all is_hex ds ≡ true
digits_hex ds c h = elim (chosen (list_all is_hex ds) (Some (digits_value 16 ds)) None (Some c) h)
    [ inl p ↦ p.0 | inr p ↦ absurd cc ]

-- ---- UTF-8

echar_scalar : (e c : ℕ) → echar e ≡ Some c → IsScalar c
echar_scalar e c h = let r = echar_range e c h in grind (arith, nat_tests, r.1)

-- an escape between two texts
escape_utf8 : (front bs value : List ℕ) (c : ℕ) → IsUtf8 front → IsScalar c → IsUtf8 value
    → IsUtf8 (front ++ (encode_utf8 c ++ value))
escape_utf8 front bs value c before scalar after =
    IsUtf8-append front (encode_utf8 c ++ value) before
    (IsUtf8-append (encode_utf8 c) value (IsUtf8-encode c scalar) after)

-- skipping the digits of an escape
digits_utf8 : (front ds rest value : List ℕ) (n u c : ℕ) → u < 128 → WritesHex n ds c
    → IsUtf8 (front ++ 92 ∷ u ∷ (ds ++ rest)) → (IsUtf8 rest → IsUtf8 value)
    → IsUtf8 (front ++ (encode_utf8 c ++ value))
digits_utf8 front ds rest value n u c ascii w utf8 ih =
    let cut = around_ascii front 92 (u ∷ (ds ++ rest)) (omega arith) utf8 in
    let behind = behind_class is_hex hex_ascii ds rest (digits_hex ds c w.value)
    (behind_ascii u (ds ++ rest) ascii cut.1) in
    escape_utf8 front rest value c cut.0 w.scalar (ih behind)

meanings_utf8 : (token : Token) (ps : List Piece) (front : List ℕ) → AllByRecursion (IsTokenPiece token) ps
    → IsUtf8 (front ++ pieces_text ps) → IsUtf8 (front ++ pieces_value ps)
meanings_utf8 token [] front each utf8 = utf8
meanings_utf8 token (raw c ∷ ps) front each utf8 =
    subst IsUtf8 (append_assoc front (c ∷ []) (pieces_value ps))
    (meanings_utf8 token ps (front ++ c
    ∷ []) each.1 (subst IsUtf8 (sym (append_assoc front (c ∷ []) (pieces_text ps))) utf8))
meanings_utf8 Iri (letter e c ∷ ps) front each utf8 = absurd each.0
meanings_utf8 Quoted (letter e c ∷ ps) front each utf8 =
    let range = echar_range e c each.0 in
    let cut = around_ascii front 92 (e ∷ pieces_text ps) (omega arith) utf8 in
    escape_utf8 front (pieces_text ps) (pieces_value ps) c cut.0 (echar_scalar e c each.0)
    (meanings_utf8 Quoted ps [] each.1 (behind_ascii e (pieces_text ps) range.0 cut.1))
meanings_utf8 token (short ds c ∷ ps) front each utf8 =
    digits_utf8 front ds (pieces_text ps) (pieces_value ps) 4 117 c (omega arith) each.0.0 utf8
    (λ behind. meanings_utf8 token ps [] each.1 behind)
meanings_utf8 token (long ds c ∷ ps) front each utf8 =
    digits_utf8 front ds (pieces_text ps) (pieces_value ps) 8 85 c (omega arith) each.0.0 utf8
    (λ behind. meanings_utf8 token ps [] each.1 behind)

pub inside_utf8 : (token : Token) (text value : List ℕ) → EncodesContent token text value → IsUtf8 text → IsUtf8 value
inside_utf8 token text value i utf8 =
    subst IsUtf8 (sym i.means) (meanings_utf8 token i.pieces [] i.each (subst IsUtf8 i.whole utf8))

-- ---- each byte passes

beyond : (token : Token) (b : ℕ) → 128 ≤ b → is_escapable token b ≡ true
beyond Iri b h = iri_char_beyond b h
beyond Quoted b h = other_beyond b h

raw_passes : (token : Token) (c : ℕ) → IsTokenPiece token (raw c) → is_escapable token c ≡ true
raw_passes Iri c h = h
raw_passes Quoted c h = and_first (not (eqb c 0)) (is_string_char c) h

letter_passes : (token : Token) (e c : ℕ) → IsTokenPiece token (letter e c) → is_escapable token c ≡ true
letter_passes Iri e c h = absurd h
letter_passes Quoted e c h = let r = echar_range e c h in grind (arith, nat_tests, r.2)

meaning_passes : (token : Token) (p : Piece) → IsTokenPiece token p
    → list_all (is_escapable token) (piece_value p) ≡ true
meaning_passes token (raw c) h = and_both _ true (raw_passes token c h) refl
meaning_passes token (letter e c) h = encode_passes (is_escapable token) c (beyond token) (letter_passes token e c h)
meaning_passes token (short ds c) h = encode_passes (is_escapable token) c (beyond token) h.1
meaning_passes token (long ds c) h = encode_passes (is_escapable token) c (beyond token) h.1

meanings_pass : (token : Token) (ps : List Piece) → AllByRecursion (IsTokenPiece token) ps
    → list_all (is_escapable token) (pieces_value ps) ≡ true
meanings_pass token [] each = refl
meanings_pass token (p ∷ ps) each =
    list_all-append (is_escapable token) (piece_value p) (pieces_value ps)
    ∙ and_both _ _ (meaning_passes token p each.0) (meanings_pass token ps each.1)

pub inside_passes : (token : Token) (text value : List ℕ) → EncodesContent token text value
    → list_all (is_escapable token) value ≡ true
inside_passes token text value i = ap (list_all (is_escapable token)) i.means ∙ meanings_pass token i.pieces i.each

-- ---- terms

pub iri_value : (text iri : List ℕ) → EncodesIri text iri → IsUtf8 text → IsIri iri
iri_value text iri s utf8 =
    let inner = (around_ascii s.inner 62 [] (omega arith)
    (behind_ascii 60 (s.inner ++ 62 ∷ []) (omega arith) (subst IsUtf8 s.whole utf8))).0 in
    record {
      utf8 = inside_utf8 Iri s.inner iri s.content inner;
      absolute = s.absolute;
      each =
          inside_passes Iri s.inner iri s.content;
    }

datatype_value : (text iri : List ℕ) → EncodesDatatype text iri → IsUtf8 text → IsIri iri
datatype_value text iri s utf8 =
    let cut = around_ascii s.before 94 (94 ∷ (s.behind ++ s.spelled)) (omega arith) (subst IsUtf8 s.whole utf8) in
    let spelled = behind_class is_whitespace blank_ascii s.behind s.spelled s.whitespace.1
    (behind_ascii 94 (s.behind ++ s.spelled) (omega arith) cut.1) in
    iri_value s.spelled iri s.datatype spelled

suffix_value : (text : List ℕ) (suffix : Suffix) → EncodesSuffix text suffix → IsUtf8 text → IsLiteralSuffix suffix
    × IsNotXsdString suffix
suffix_value text Plain s utf8 = (tt, tt)
suffix_value text (Tag tag) s utf8 = (s.form, tt)
suffix_value text (Datatype iri) s utf8 = (datatype_value text iri s.0 utf8, s.1)

term_value : (text : List ℕ) (term : Term) → IsUtf8 text → EncodesTermForm text term → IsGrammarTerm term
term_value text (terms.Iri iri) utf8 s = iri_value text iri s utf8
term_value text (terms.Blank label) utf8 s =
    record {
      utf8 = behind_ascii 58 label (omega arith)
          (behind_ascii 95 (58 ∷ label) (omega arith) (subst IsUtf8 s.whole utf8));
      form = s.form;
    }
term_value text (terms.Literal value suffix) utf8 s =
    let cut = around_ascii s.inner 34 s.tail (omega arith)
    (behind_ascii 34 (s.inner ++ 34 ∷ s.tail) (omega arith) (subst IsUtf8 s.whole utf8)) in
    let behind = suffix_value s.tail suffix s.behind cut.1 in (
      record {
        utf8 = inside_utf8 Quoted s.inner value s.content cut.0;
        no_zero =
            inside_passes Quoted s.inner value s.content;
      },
      behind.0,
      behind.1,
    )

pub Encodes-IsGrammarTerm : (text : List ℕ) (term : Term) → Encodes text term → IsGrammarTerm term
Encodes-IsGrammarTerm text term s = term_value text term s.utf8 s.form
