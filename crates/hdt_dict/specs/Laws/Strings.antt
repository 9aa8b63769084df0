-- Lists of strings: the string at an index, and `dedup` and sorting seen through a function of the elements.
use Rattle.std.proofs.Common.{◌≡◌, ℕ, ◌+◌, ◌<◌, Bool, true, false, cond, List, [], ◌∷◌, length, get_or, map, refl, ap}
use Rattle.std.proofs.Common.{subst, arith}
use Rattle.std.proofs.Common.{inl, inr, ◌⊎◌}
use Rattle.std.specs.List.{Contains}
use Rattle.std.proofs.lemmas.List.Folds.{Any-from_list_any, list_any_at}
use Rattle.std.specs.Str.{bytes_eq}
use Rattle.std.proofs.lemmas.Slice.Eq.{bytes_eq-Decides}
use Rattle.std.specs.declared.cmp.Ordering.{Ordering}
use Rattle.std.specs.List.{dedup, dedup_from}
use Rattle.std.specs.List.Sorted.{IsSorted}
use Rattle.std.proofs.lemmas.List.{get_or-map, length-map}
use Rattle.hdt_front.specs.Canonical.{borrowed_texts}
use Rattle.hdt_dict.specs.Strings.{has, BorrowedString}

module _ {X Y : Type 0} (f : X → Y) (E : Y → Y → Bool) where
  map-dedup_from : (k : X) (xs : List X)
      → map f (dedup_from (λ a b. E (f a) (f b)) k xs) ≡ dedup_from E (f k) (map f xs)
  map-dedup_from k [] = refl
  map-dedup_from k (x ∷ xs) =
      by (E (f x) (f k)) _ _ _ _ (map-dedup_from k xs) (ap (λ l. f k ∷ l) (map-dedup_from x xs))
    where
      by : (b : Bool) (p q : List X) (r s : List Y) → map f p ≡ r → map f q ≡ s → map f (cond b p q) ≡ cond b r s
      by true p q r s e h = e
      by false p q r s e h = h

  pub map-dedup : (xs : List X) → map f (dedup (λ a b. E (f a) (f b)) xs) ≡ dedup E (map f xs)
  map-dedup [] = refl
  map-dedup (x ∷ xs) = map-dedup_from x xs

pub sorted_map : {X Y : Type 0} (f : X → Y) (R : Y → Y → Ordering) (xs : List X) → IsSorted (λ a b. R (f a) (f b)) xs
    → IsSorted R (map f xs)
sorted_map f R [] h = λ k d low high. absurd (omega arith)
sorted_map f R (x ∷ xs) h = λ k d low high.
    let long : k + 1 < length (x ∷ xs) = omega (arith, length-map (x ∷ xs) f) in
    let short : k < length (x ∷ xs) = omega arith in
    rw (get_or-map f (x ∷ xs) (k + 1) x d long, get_or-map f (x ∷ xs) k x d short) (h k x low long)

-- the string at an index
pub string_at : (vs : List BorrowedString) (i : ℕ) (v : BorrowedString) (d : List ℕ) → i < length vs
    → get_or (borrowed_texts vs) i d ≡ (get_or vs i v).now
string_at vs i v d below = get_or-map (λ (w : BorrowedString). w.now) vs i v d below

-- a string is in the list exactly if it is a member
pub has-Contains : (ys : List (List ℕ)) (x : List ℕ) → has ys x ≡ true → Contains ys x
has-Contains ys x h =
    let a = Any-from_list_any (λ y. bytes_eq y x) ys h in
    (a.0, a.2, subst (λ y. get_or ys a.0 y ≡ y) ((bytes_eq-Decides a.1 x).0 a.4) a.3)

pub Contains-has : (ys : List (List ℕ)) (x : List ℕ) → Contains ys x → has ys x ≡ true
Contains-has ys x h = list_any_at (λ y. bytes_eq y x) ys h.0 x h.1 ((bytes_eq-Decides (get_or ys h.0 x) x).1 h.2)

-- a string is a member of a list, or it is not
pub member_cases : (ys : List (List ℕ)) (x : List ℕ) → Contains ys x ⊎ (Contains ys x → ⊥)
member_cases ys x = by (has ys x) refl
  where
    by : (b : Bool) → has ys x ≡ b → Contains ys x ⊎ (Contains ys x → ⊥)
    by true e = inl (has-Contains ys x e)
    by false e = inr (λ there. let f = Contains-has ys x there in cc)
