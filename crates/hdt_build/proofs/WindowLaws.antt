-- The string triples of a window.
use Rattle.std.proofs.Common.{◌≡◌, ◌∙◌, ◌++◌, ◌∷◌, [], ℕ, List, append_assoc, ap, map, sym, length, length-append}
use Rattle.std.proofs.Common.{get_or, inl, inr, arith}
use Rattle.std.proofs.Math.Seq.{get_or-append_seam}
use Rattle.std.proofs.lemmas.Bool.{cases_lt}
use Rattle.std.proofs.lemmas.List.{get_or_append_left, map-append}
use Rattle.hdt_wire.specs.declared.Role.{Role}
use Rattle.hdt_triples.specs.TripleSequences.{Triple}
use Rattle.hdt_file.specs.Denoted.{StringTriple, denoted, denoted_triple, string_of}
use Rattle.hdt_file.specs.File.{GraphParts}
use Rattle.hdt_build.specs.Inside.WindowStrings.{AreStringsOfIds, strings_of_triples}
use Rattle.hdt_build.specs.Relabelling.{relabelled, relabelled_triple}

-- the string triples of two lists
both : (prefix : List ℕ) (g : GraphParts) (xs ys : List Triple)
    → strings_of_triples prefix g (xs ++ ys) ≡ strings_of_triples prefix g xs ++ strings_of_triples prefix g ys
both prefix g xs ys =
    ap (map (relabelled_triple prefix)) (map-append (denoted_triple g) xs ys)
    ∙ map-append (relabelled_triple prefix) (denoted g xs) (denoted g ys)

-- those of the first triples were added, those of the others are left
pub goes_on : (prefix : List ℕ) (g : GraphParts) (ts xs ys : List Triple) (old new all : List StringTriple)
    → ts ≡ xs ++ ys → old ++ strings_of_triples prefix g ts ≡ all → new ≡ old ++ strings_of_triples prefix g xs
    → new ++ strings_of_triples prefix g ys ≡ all
goes_on prefix g ts xs ys old new all split h added =
    ap (λ (l : List StringTriple). l ++ strings_of_triples prefix g ys) added
    ∙ (append_assoc old (strings_of_triples prefix g xs) (strings_of_triples prefix g ys)
    ∙ (ap (λ (l : List StringTriple). old ++ l) (sym (both prefix g xs ys))
    ∙ (ap (λ (l : List Triple). old ++ strings_of_triples prefix g l) (sym split) ∙ h)))

-- one more string, of the next ID
pub one_more : (prefix : List ℕ) (g : GraphParts) (role : Role) (ids : List ℕ) (at : ℕ) (xs ys : List (List ℕ))
    (x : List ℕ) → ys ≡ xs ++ x ∷ [] → length xs ≡ at → AreStringsOfIds prefix g role ids xs
    → x ≡ relabelled prefix (string_of g role (get_or ids at 0)) → AreStringsOfIds prefix g role ids ys
one_more prefix g role ids at xs ys x e here h one i below = elim (cases_lt i (length xs)) [
  | inl lt ↦ ap (λ (l : List (List ℕ)). get_or l i []) e ∙ (get_or_append_left xs (x ∷ []) [] i lt ∙ h i lt)
  | inr le ↦
      let same : i ≡ length xs = omega (arith, le, below, ap length e, length-append xs (x ∷ [])) in
      ap (λ (l : List (List ℕ)). get_or l i []) e
      ∙ (ap (λ n. get_or (xs ++ x ∷ []) n []) same
      ∙ (get_or-append_seam xs x [] []
      ∙ (one ∙ ap (λ n. relabelled prefix (string_of g role (get_or ids n 0))) (sym (same ∙ here)))))
]
