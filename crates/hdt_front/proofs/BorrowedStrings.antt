-- Borrowed strings, one by one.
use Rattle.std.proofs.Common.{◌≡◌, ℕ, zero, suc, ◌+◌, ◌<◌, List, [], ◌∷◌, length, drop, get_or, refl, ap, ◌∙◌, arith}
use Rattle.std.proofs.Common.{subst}
use Rattle.std.specs.Borrow.{Bor}
use Rattle.std.proofs.lemmas.List.{get_or-map, length-map}
use Rattle.hdt_wire.specs.Control.{HasNoZero}
use Rattle.hdt_front.specs.Section.{AreSectionStrings}
use Rattle.hdt_front.specs.Canonical.{borrowed_texts}

rest_of : (strings : List (Bor (List ℕ))) (i : ℕ) (d : Bor (List ℕ)) → i < length strings
    → drop i (borrowed_texts strings) ≡ (get_or strings i d).now ∷ drop (suc i) (borrowed_texts strings)
rest_of [] i d lt = absurd (omega (arith, lt))
rest_of (s ∷ strings) zero d lt = refl
rest_of (s ∷ strings) (suc i) d lt = rest_of strings i d (omega (arith, lt))

-- String i is the first of the remaining ones.
pub next_of : (strings : List (Bor (List ℕ))) (i : ℕ) (d : Bor (List ℕ)) → i < length strings
    → drop i (borrowed_texts strings) ≡ (get_or strings i d).now ∷ drop (i + 1) (borrowed_texts strings)
next_of strings i d lt = rest_of strings i d lt
    ∙ ap (λ k. (get_or strings i d).now ∷ drop k (borrowed_texts strings)) (let e : suc i ≡ i + 1 = omega arith in e)

pub none_left : (strings : List (Bor (List ℕ))) (i : ℕ) → i ≡ length strings → drop i (borrowed_texts strings) ≡ []
none_left strings i e = ap (λ k. drop k (borrowed_texts strings)) e ∙ past strings
  where
    past : (strings : List (Bor (List ℕ))) → drop (length strings) (borrowed_texts strings) ≡ []
    past [] = refl
    past (s ∷ strings) = past strings

-- Strings that can form a section have no zero byte.
pub no_zero_in : (strings : List (Bor (List ℕ))) (i : ℕ) (d : Bor (List ℕ)) → AreSectionStrings (borrowed_texts strings)
    → i < length strings → HasNoZero (get_or strings i d).now
no_zero_in strings i d are lt =
    let text : Bor (List ℕ) → List ℕ = λ s. s.now in
    subst HasNoZero (get_or-map text strings i d [] lt) (are.no_zero i (omega (arith, lt, length-map strings text)))
