-- Strings and triples with a prefix before their labels.
use Rattle.std.proofs.Common.{◌≡◌, ◌∙◌, ℕ, ◌<◌, ◌≢◌, Bool, true, false, List, [], ◌∷◌, ◌&&◌, map, eqb, refl}
use Rattle.std.proofs.Common.{sym}
use Rattle.std.proofs.Common.{subst, arith}
use Rattle.std.specs.Prelude.{IsUtf8, if◌then◌else◌}
use Rattle.std.specs.List.{All}
use Rattle.std.proofs.lemmas.Bool.{and_parts, eqb-true}
use Rattle.std.proofs.lemmas.List.Elements.{All-map, All-tail}
use Rattle.std.proofs.lemmas.Simd.{map-map}
use Rattle.std.proofs.lemmas.Str.{IsCharBoundary-after_ascii, IsUtf8-drop}
use Rattle.hdt_dict.specs.Strings.{IsDictionaryString}
use Rattle.hdt_terms.specs.Split.{prefix_label}
use Rattle.hdt_file.specs.Denoted.{StringTriple}
use Rattle.hdt_build.specs.Graph.{subjects_of, predicates_of, objects_of}
use Rattle.hdt_build.specs.Reading.{HasDictionaryStrings}
use Rattle.hdt_build.specs.Relabelling.{has_label, relabelled, relabelled_triple, relabelled_triples}
use Rattle.hdt_build.proofs.PrefixedLabels.{label_text, nothing_before}
use Rattle.hdt_build.proofs.StringsOfIds.{same_strings}

-- ---- no prefix

pub unrelabelled : (x : List ℕ) → relabelled [] x ≡ x
unrelabelled x = case (has_label x)
  where
    case : (test : Bool) → (if test then prefix_label [] x else x) ≡ x
    case true = nothing_before x
    case false = refl

pub unrelabelled_triples : (ts : List StringTriple) → relabelled_triples [] ts ≡ ts
unrelabelled_triples [] = refl
unrelabelled_triples (t ∷ ts) =
    let one : relabelled_triple [] t ≡ t =
    same_strings _ _ _ _ _ _ (unrelabelled t.0) (unrelabelled t.1) (unrelabelled t.2) in
    λ i. one i ∷ unrelabelled_triples ts i

-- ---- a dictionary can have the strings

after_ascii : (c : ℕ) (bs : List ℕ) → c < 128 → IsUtf8 (c ∷ bs) → IsUtf8 bs
after_ascii c bs ascii utf8 =
    IsUtf8-drop (c ∷ bs) 1 utf8 (IsCharBoundary-after_ascii (c ∷ bs) 0 utf8 (omega arith) ascii)

label_of : (label : List ℕ) → IsDictionaryString (95 ∷ 58 ∷ label) → IsDictionaryString label
label_of label h = record {
  utf8 = after_ascii 58 label (omega arith) (after_ascii 95 (58 ∷ label) (omega arith) h.utf8);
  no_zero = All-tail (λ (b : ℕ). b ≢ 0) 58 label (All-tail (λ (b : ℕ). b ≢ 0) 95 (58 ∷ label) h.no_zero);
}

pub relabelled_text : (prefix x : List ℕ) → IsDictionaryString prefix → IsDictionaryString x
    → IsDictionaryString (relabelled prefix x)
relabelled_text prefix [] p h = h
relabelled_text prefix (a ∷ []) p h = h
relabelled_text prefix (a ∷ b ∷ label) p h = case (eqb a 95 && eqb b 58) refl
  where
    case : (test : Bool) → (eqb a 95 && eqb b 58) ≡ test
        → IsDictionaryString (if test then prefix_label prefix (a ∷ b ∷ label) else a ∷ b ∷ label)
    case false e = h
    case true e =
        let both = and_parts _ _ e in
        let first : a ≡ 95 = eqb-true a 95 both.0 in
        let second : b ≡ 58 = eqb-true b 58 both.1 in
        let P : ℕ → ℕ → Type 0 = λ c d. IsDictionaryString (c ∷ d ∷ label)
        → IsDictionaryString (prefix_label prefix (c ∷ d ∷ label)) in
        let known : P 95 58 = λ k. label_text prefix label p (label_of label k) in
        subst (λ (c : ℕ). P c b) (sym first) (subst (λ (d : ℕ). P 95 d) (sym second) known) h

pub relabelled_texts : (prefix : List ℕ) (ts : List StringTriple) → IsDictionaryString prefix → HasDictionaryStrings ts
    → HasDictionaryStrings (relabelled_triples prefix ts)
relabelled_texts prefix ts p h = record {
  subjects_are = each (λ t. t.0) (subjects_of ts) (map-map (λ (t : StringTriple). t.0) (relabelled_triple prefix) ts
      ∙ sym (map-map (relabelled prefix) (λ (t : StringTriple). t.0) ts)) h.subjects_are;
  predicates_are = each (λ t. t.1) (predicates_of ts)
      (map-map (λ (t : StringTriple). t.1) (relabelled_triple prefix) ts
      ∙ sym (map-map (relabelled prefix) (λ (t : StringTriple). t.1) ts)) h.predicates_are;
  objects_are = each (λ t. t.2) (objects_of ts) (map-map (λ (t : StringTriple). t.2) (relabelled_triple prefix) ts
      ∙ sym (map-map (relabelled prefix) (λ (t : StringTriple). t.2) ts)) h.objects_are;
}
  where
    each : (f : StringTriple → List ℕ) (xs : List (List ℕ))
        → map f (relabelled_triples prefix ts) ≡ map (relabelled prefix) xs → All IsDictionaryString xs
        → All IsDictionaryString (map f (relabelled_triples prefix ts))
    each f xs is all = subst (All IsDictionaryString) (sym is) (All-map IsDictionaryString (relabelled prefix) xs
        (λ k d lt. relabelled_text prefix _ p (all k d lt)))
