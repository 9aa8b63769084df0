-- A list without duplicates is at most as long as one that has all of its elements.
use Rattle.std.proofs.Common.{◌≡◌, ◌≢◌, ◌∙◌, ◌⊎◌, inl, inr, ℕ, zero, suc, ◌<◌, ◌≤◌, List, [], ◌∷◌, length}
use Rattle.std.proofs.Common.{get_or, refl, ap, sym, subst, arith}
use Rattle.std.specs.List.{Contains}

-- no element occurs at two indices
pub record AreDistinct {X : Type 0} (xs : List X) : Type 0 where
  pub apart : (i j : ℕ) (d : X) → i < j → j < length xs → get_or xs i d ≢ get_or xs j d

-- all elements of a list but one
record IsWithout {X : Type 0} (x : X) (ys zs : List X) : Type 0 where
  shorter : length ys ≡ suc (length zs)
  others : (y : X) → Contains ys y → (y ≡ x → ⊥) → Contains zs y

later : {X : Type 0} (z y : X) (zs : List X) → Contains zs y → Contains (z ∷ zs) y
later z y zs h = (suc h.0, omega (arith, h.1), h.2)

-- an element is the first one or one of the others
first_or : {X : Type 0} (y x : X) (ys : List X) → Contains (y ∷ ys) x → (y ≡ x) ⊎ Contains ys x
first_or y x ys (zero, low, is) = inl is
first_or y x ys (suc k, low, is) = inr (k, omega (arith, low), is)

without : {X : Type 0} (x : X) (ys : List X) → Contains ys x → (zs : List X) × IsWithout x ys zs
without x [] h = absurd (omega (arith, h.1))
without x (y ∷ ys) (zero, low, is) = (
  ys,
  record {
    shorter = refl;
    others = λ z there not. elim (first_or y z ys there) [
      | inl same ↦ absurd (not (sym same ∙ is))
      | inr more ↦ more
    ];
  },
)
without x (y ∷ ys) (suc k, low, is) =
    let r = without x ys (k, omega (arith, low), is) in (
      y ∷ r.0,
      record {
        shorter = ap suc r.1.shorter;
        others = λ z there not. elim (first_or y z ys there) [
          | inl same ↦ (zero, omega arith, same)
          | inr more ↦ later y z r.0 (r.1.others z more not)
        ];
      },
    )

rest_distinct : {X : Type 0} (x : X) (xs : List X) → AreDistinct (x ∷ xs) → AreDistinct xs
rest_distinct x xs h = record { apart = λ i j d lt below. h.apart (suc i) (suc j) d (omega arith) (omega arith) }

first_alone : {X : Type 0} (x : X) (xs : List X) → AreDistinct (x ∷ xs) → Contains xs x → ⊥
first_alone x xs h there = h.apart 0 (suc there.0) x (omega arith) (omega (arith, there.1)) (sym there.2)

pub at_most : {X : Type 0} (xs ys : List X) → AreDistinct xs → ((x : X) → Contains xs x → Contains ys x)
    → length xs ≤ length ys
at_most [] ys h all = omega arith
at_most (x ∷ xs) ys h all =
    let r = without x ys (all x (zero, omega arith, refl)) in
    let fewer = at_most xs r.0 (rest_distinct x xs h) (λ y there. r.1.others y (all y (later x y xs there))
    (λ same. first_alone x xs h (subst (Contains xs) same there))) in
    omega (arith, fewer, r.1.shorter)
