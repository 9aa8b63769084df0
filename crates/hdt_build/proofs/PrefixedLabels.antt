-- Prefixes of labels, in terms and in their dictionary strings.
use Rattle.std.proofs.Common.{◌≡◌, ℕ, Bool, true, false, List, [], ◌∷◌, ◌++◌, map, eqb, not, refl, ap}
use Rattle.std.proofs.Common.{◌≢◌, subst, rules}
use Rattle.std.specs.Prelude.{if◌then◌else◌}
use Rattle.std.specs.Char.{is_ascii_alphabetic}
use Rattle.std.proofs.lemmas.Bool.{and_parts, eqb-true, eqb-false}
use Rattle.std.proofs.lemmas.List.Elements.{All-append}
use Rattle.std.proofs.lemmas.List.Sums.{AllPass-from_list_all}
use Rattle.std.proofs.lemmas.Str.{IsUtf8-append, IsUtf8-from_ascii}
use Rattle.hdt_wire.specs.Laws.Checks.{not-true}
use Rattle.hdt_dict.specs.Strings.{IsDictionaryString}
use Rattle.hdt_terms.specs.declared.triple.Term.{Term}
use Rattle.hdt_terms.specs.declared.triple.Term.TheVariants.{Iri, Blank, Literal}
use Rattle.hdt_terms.specs.declared.triple.Triple.{Triple}
use Rattle.hdt_terms.specs.Split.{is_blank_string, prefix_label}
use Rattle.hdt_terms.specs.Terms.{IsGrammarTerm, IsText, dictionary_string}
use Rattle.hdt_terms.specs.Chars.{is_absolute}
use Rattle.hdt_build.specs.Documents.{is_blank_node, prefixed_strings, prefixed_term, prefixed_triple}
use Rattle.hdt_build.specs.Reading.{term_strings}
use Rattle.hdt_build.proofs.StringsOfIds.{same_strings}

-- ---- strings of terms

letter : (a : ℕ) → is_ascii_alphabetic a ≡ true → eqb a 95 ≡ false
letter a h = case (eqb a 95) refl
  where
    case : (b : Bool) → eqb a 95 ≡ b → eqb a 95 ≡ false
    case false e = e
    case true e = absurd
        (let f : is_ascii_alphabetic 95 ≡ true =
        subst (λ (c : ℕ). is_ascii_alphabetic c ≡ true) (eqb-true a 95 e) h in cc)

iri_first : (a : ℕ) (rest : List ℕ) → is_absolute (a ∷ rest) ≡ true → eqb a 95 ≡ false
iri_first a rest h = letter a (and_parts _ _ h).0

pub iri_kept : (prefix iri : List ℕ) → is_absolute iri ≡ true → prefix_label prefix iri ≡ iri
iri_kept prefix [] h = refl
iri_kept prefix (a ∷ []) h = refl
iri_kept prefix (a ∷ b ∷ rest) h =
    ap (λ (test : Bool). if test then a ∷ b ∷ (prefix ++ rest) else a ∷ b ∷ rest) (iri_first a (b ∷ rest) h)

iri_not_blank : (iri : List ℕ) → is_absolute iri ≡ true → is_blank_string iri ≡ false
iri_not_blank [] h = refl
iri_not_blank (a ∷ rest) h = iri_first a rest h

pub literal_kept : (prefix text : List ℕ) → prefix_label prefix (34 ∷ text) ≡ 34 ∷ text
literal_kept prefix [] = refl
literal_kept prefix (a ∷ rest) = refl

-- the prefix goes into the string as into the term
pub prefixed_string : (prefix : List ℕ) (t : Term) → IsGrammarTerm t
    → prefix_label prefix (dictionary_string t) ≡ dictionary_string (prefixed_term prefix t)
unfolding dictionary_string
prefixed_string prefix (Iri iri) h = iri_kept prefix iri h.absolute
prefixed_string prefix (Blank label) h = refl
prefixed_string prefix (Literal text suffix) h = literal_kept prefix _

-- the string tells whether the term is a blank node
pub blank_string : (t : Term) → IsGrammarTerm t → is_blank_string (dictionary_string t) ≡ is_blank_node t
unfolding dictionary_string
blank_string (Iri iri) h = iri_not_blank iri h.absolute
blank_string (Blank label) h = refl
blank_string (Literal text suffix) h = refl

pub text_of : (x : List ℕ) → IsText x → IsDictionaryString x
text_of x h = record {
  utf8 = h.utf8;
  no_zero = λ k d lt. eqb-false _ _ (not-true _ (AllPass-from_list_all (λ (c : ℕ). not (eqb c 0)) x h.no_zero k d lt));
}

-- a label with the prefix before it
pub label_text : (prefix label : List ℕ) → IsDictionaryString prefix → IsDictionaryString label
    → IsDictionaryString (95 ∷ 58 ∷ (prefix ++ label))
label_text prefix label p l = record {
  utf8 = IsUtf8-append (95 ∷ 58 ∷ []) (prefix ++ label)
      (IsUtf8-from_ascii (95 ∷ 58 ∷ []) (search rules)) (IsUtf8-append prefix label p.utf8 l.utf8);
  no_zero = All-append (λ b. b ≢ 0) (95 ∷ 58 ∷ []) (prefix ++ label) (search rules)
      (All-append (λ b. b ≢ 0) prefix label p.no_zero l.no_zero);
}

-- a dictionary can have the string with the prefix
pub prefixed_text : (prefix : List ℕ) (t : Term) → IsDictionaryString prefix → IsGrammarTerm t
    → IsText (dictionary_string t) → IsDictionaryString (dictionary_string (prefixed_term prefix t))
unfolding dictionary_string
prefixed_text prefix (Iri iri) p h text = text_of _ text
prefixed_text prefix (Blank label) p h text =
    label_text prefix label p (text_of label (record { utf8 = h.utf8; no_zero = text.no_zero }))
prefixed_text prefix (Literal value suffix) p h text = text_of _ text

-- ---- no prefix

pub nothing_before : (x : List ℕ) → prefix_label [] x ≡ x
nothing_before [] = refl
nothing_before (a ∷ []) = refl
nothing_before (a ∷ b ∷ rest) = case (eqb a 95)
  where
    case : (test : Bool) → (if test then a ∷ b ∷ rest else a ∷ b ∷ rest) ≡ a ∷ b ∷ rest
    case true = refl
    case false = refl

same_term : (t : Term) → prefixed_term [] t ≡ t
same_term (Iri iri) = refl
same_term (Blank label) = refl
same_term (Literal text suffix) = refl

same_triple : (t : Triple) → term_strings (prefixed_triple [] t) ≡ term_strings t
same_triple t = same_strings _ _ _ _ _ _ (ap dictionary_string (same_term t.s)) refl
    (ap dictionary_string (same_term t.o))

pub unprefixed : (triples : List Triple) → prefixed_strings [] triples ≡ map term_strings triples
unprefixed [] = refl
unprefixed (t ∷ ts) = λ i. same_triple t i ∷ unprefixed ts i
