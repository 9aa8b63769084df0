-- The text that is written for a term of the grammar has no line end.
use Rattle.std.proofs.Common.{◌≡◌, ℕ, ◌+◌, ◌≤◌, ◌/◌, ◌%◌, Bool, true, false, cond, eqb, ◌||◌, List, [], ◌∷◌, ◌++◌, refl}
use Rattle.std.proofs.Common.{sym, subst, ◌∙◌, arith}
use Rattle.std.specs.Prelude.{not, nat_lt, encode_utf8, encode_utf8_all}
use Rattle.std.specs.List.{list_all, flat_map, AllByRecursion}
use Rattle.std.specs.Char.{is_ascii_alphabetic, is_ascii_alphanumeric}
use Rattle.std.specs.Str.{chars}
use Rattle.std.proofs.lemmas.Bool.{not-true}
use Rattle.std.proofs.lemmas.Bool.Decides.{nat_tests}
use Rattle.std.proofs.lemmas.List.Elements.{All-weaker}
use Rattle.std.proofs.lemmas.List.Folds.{list_all-append}
use Rattle.std.proofs.lemmas.List.Sums.{AllPass-from_list_all}
use Rattle.std.proofs.lemmas.Str.{encodes-chars}
use Rattle.hdt_terms.specs.declared.escaped_tokens.Token.{Token}
use Rattle.hdt_terms.specs.declared.escaped_tokens.Token.TheVariants as tokens
use Rattle.hdt_terms.specs.declared.triple.Term.{Term}
use Rattle.hdt_terms.specs.declared.triple.Term.TheVariants.{Iri, Blank, Literal}
use Rattle.hdt_terms.specs.declared.triple.Suffix.{Suffix}
use Rattle.hdt_terms.specs.declared.triple.Suffix.TheVariants.{Plain, Tag, Datatype}
use Rattle.hdt_terms.specs.Chars.{is_line_end, is_iri_char, is_pn_chars, is_label_start}
use Rattle.hdt_terms.specs.Labels.{is_label_rest, is_label}
use Rattle.hdt_terms.specs.Lines.{HasNoLineEnd}
use Rattle.hdt_terms.specs.Terms.{IsTag, IsSubtag, IsLabel, IsLiteralSuffix, IsGrammarTerm}
use Rattle.hdt_terms.specs.Writing.{written, written_token, written_suffix, written_byte, hex_digit}
use Rattle.hdt_terms.proofs.Bools.{and_first, and_second, and_both, apart}
use Rattle.hdt_terms.proofs.Ranges.{encode_passes}

-- ---- bytes

abbrev no_end : ℕ → Bool
no_end c = not (is_line_end c)

-- no byte is a line end
abbrev WithoutEnds : List ℕ → Type 0
WithoutEnds text = list_all no_end text ≡ true

-- a class without the line ends
class_byte : (class : ℕ → Bool) → class 10 ≡ false → class 13 ≡ false → (c : ℕ) → class c ≡ true → no_end c ≡ true
class_byte class feed return c h = rw (apart class c 10 h feed, apart class c 13 h return) refl

class_bytes : (class : ℕ → Bool) → class 10 ≡ false → class 13 ≡ false → (cs : List ℕ) → list_all class cs ≡ true
    → WithoutEnds cs
class_bytes class feed return [] h = refl
class_bytes class feed return (c ∷ cs) h =
    and_both (no_end c) _ (class_byte class feed return c (and_first (class c) _ h))
    (class_bytes class feed return cs (and_second (class c) _ h))

beyond : (least c : ℕ) → 14 ≤ least → least ≤ c → no_end c ≡ true
beyond least c h more = grind (arith, nat_tests)

appended : (xs ys : List ℕ) → WithoutEnds xs → WithoutEnds ys → WithoutEnds (xs ++ ys)
appended xs ys h k = list_all-append no_end xs ys ∙ and_both (list_all no_end xs) _ h k

-- ---- tokens

hex_by : (d : ℕ) (b : Bool) → 14 ≤ cond b (48 + d) (55 + d)
hex_by d true = omega arith
hex_by d false = omega arith

hex_byte : (d : ℕ) → no_end (hex_digit d) ≡ true
hex_byte d = beyond 14 (hex_digit d) (omega arith) (hex_by d (nat_lt d 10))

iri_by : (c : ℕ) (b : Bool) → is_iri_char c ≡ b
    → WithoutEnds (cond b (c ∷ []) (92 ∷ 117 ∷ 48 ∷ 48 ∷ hex_digit (c / 16) ∷ hex_digit (c % 16) ∷ []))
iri_by c true e = class_bytes is_iri_char refl refl (c ∷ []) (rw e refl)
iri_by c false e = rw (hex_byte (c / 16), hex_byte (c % 16)) refl

string_by : (c : ℕ) (p q r s : Bool) → eqb c 10 ≡ r → eqb c 13 ≡ s
    → WithoutEnds (cond p (92 ∷ 92
    ∷ []) (cond q (92 ∷ 34 ∷ []) (cond r (92 ∷ 110 ∷ []) (cond s (92 ∷ 114 ∷ []) (c ∷ [])))))
string_by c true q r s e f = refl
string_by c false true r s e f = refl
string_by c false false true s e f = refl
string_by c false false false true e f = refl
string_by c false false false false e f = rw (e, f) refl

byte_written : (token : Token) (c : ℕ) → WithoutEnds (written_byte token c)
byte_written tokens.Iri c = iri_by c (is_iri_char c) refl
byte_written tokens.Quoted c = string_by c (eqb c 92) (eqb c 34) (eqb c 10) (eqb c 13) refl refl

bytes_written : (token : Token) (text : List ℕ) → WithoutEnds (flat_map (written_byte token) text)
bytes_written token [] = refl
bytes_written token (c ∷ text) =
    appended (written_byte token c) (flat_map (written_byte token) text) (byte_written token c)
    (bytes_written token text)

token_written : (token : Token) (text : List ℕ) → WithoutEnds (written_token token text)
token_written tokens.Iri text =
    appended (flat_map (written_byte tokens.Iri) text) (62 ∷ []) (bytes_written tokens.Iri text) refl
token_written tokens.Quoted text =
    appended (flat_map (written_byte tokens.Quoted) text) (34 ∷ []) (bytes_written tokens.Quoted text) refl

-- ---- tags

parts_written : (parts : List (List ℕ)) → AllByRecursion IsSubtag parts
    → WithoutEnds (flat_map (λ (part : List ℕ). 45 ∷ part) parts)
parts_written [] each = refl
parts_written (part ∷ parts) each =
    appended (45 ∷ part) (flat_map (λ (part : List ℕ). 45 ∷ part) parts)
    (class_bytes is_ascii_alphanumeric refl refl part each.0.each) (parts_written parts each.1)

tag_written : (tag : List ℕ) → IsTag tag → WithoutEnds tag
tag_written tag h =
    subst WithoutEnds (sym h.whole)
    (appended h.head _ (class_bytes is_ascii_alphabetic refl refl h.head h.letters) (parts_written h.parts h.each))

suffix_written : (suffix : Suffix) → IsLiteralSuffix suffix → WithoutEnds (written_suffix suffix)
suffix_written Plain h = refl
suffix_written (Tag tag) h = tag_written tag h
suffix_written (Datatype iri) h = token_written tokens.Iri iri

-- ---- labels

character : (class : ℕ → Bool) → class 10 ≡ false → class 13 ≡ false → (c : ℕ) → class c ≡ true
    → WithoutEnds (encode_utf8 c)
character class feed return c h =
    encode_passes no_end c (λ b. beyond 128 b (omega arith)) (class_byte class feed return c h)

rest_written : (cs : List ℕ) → is_label_rest cs ≡ true → WithoutEnds (encode_utf8_all cs)
rest_written [] h = refl
rest_written (c ∷ []) h = appended (encode_utf8 c) [] (character is_pn_chars refl refl c h) refl
rest_written (c ∷ d ∷ cs) h =
    appended (encode_utf8 c) (encode_utf8_all (d ∷ cs))
    (character (λ b. is_pn_chars b || eqb b 46) refl refl c (and_first (is_pn_chars c || eqb c 46) _ h))
    (rest_written (d ∷ cs) (and_second (is_pn_chars c || eqb c 46) _ h))

characters : (cs : List ℕ) → is_label cs ≡ true → WithoutEnds (encode_utf8_all cs)
characters [] h = refl
characters (c ∷ cs) h =
    appended (encode_utf8 c) (encode_utf8_all cs)
    (character is_label_start refl refl c (and_first (is_label_start c) _ h))
    (rest_written cs (and_second (is_label_start c) _ h))

label_written : (label : List ℕ) → IsLabel label → WithoutEnds label
label_written label h = subst WithoutEnds (encodes-chars label h.utf8) (characters (chars label) h.form)

-- ---- terms

term_written : (term : Term) → IsGrammarTerm term → WithoutEnds (written term)
unfolding written
term_written (Iri iri) h = token_written tokens.Iri iri
term_written (Blank label) h = label_written label h
term_written (Literal text suffix) h =
    appended (written_token tokens.Quoted text) (written_suffix suffix) (token_written tokens.Quoted text)
    (suffix_written suffix h.1)

pub written-HasNoLineEnd : (term : Term) → IsGrammarTerm term → HasNoLineEnd (written term)
written-HasNoLineEnd term h =
    All-weaker (λ c. no_end c ≡ true) (λ c. is_line_end c ≡ false) (λ c. not-true (is_line_end c)) (written term)
    (AllPass-from_list_all no_end (written term) (term_written term h))
