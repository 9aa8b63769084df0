-- Membership in lists: of an appended element, a filter and a `map`, and of strictly ascending lists.
use Rattle.std.proofs.Common.{◌≡◌, ℕ, ◌<◌, suc, zero, Bool, true, false, cond, List, [], ◌∷◌, length, get_or, map, refl}
use Rattle.std.proofs.Common.{ap, subst, sym, ◌∙◌, inl, inr, ◌⊎◌, arith}
use Rattle.std.specs.List.{All, Contains, filter}
use Rattle.std.specs.List.Sorted.{IsStrictlySortedBy}
use Rattle.std.specs.Cmp.{IsTotalOrder}
use Rattle.std.specs.declared.cmp.Ordering.{Ordering}
use Rattle.std.specs.declared.cmp.Ordering.TheVariants.{Less}
use Rattle.std.proofs.lemmas.Cmp.{tied_itself}
use Rattle.std.proofs.lemmas.List.Elements.{All-contains, All-from_recursion, Contains-get_or}
use Rattle.std.proofs.lemmas.Map.Keys.{sorted_head, sorted_tail}
use Rattle.hdt_dict.specs.Strings.{SameMembers}

module _ {X : Type 0} where
  pub Contains-here : (x : X) (xs : List X) → Contains (x ∷ xs) x
  Contains-here x xs = (0, omega arith, refl)

  pub Contains-later : (y x : X) (xs : List X) → Contains xs x → Contains (y ∷ xs) x
  Contains-later y x xs h = (suc h.0, omega arith, h.2)

  cons_by : (y x : X) (xs : List X) (k : ℕ) → k < length (y ∷ xs) → get_or (y ∷ xs) k x ≡ x → (y ≡ x) ⊎ Contains xs x
  cons_by y x xs zero h e = inl e
  cons_by y x xs (suc k) h e = inr (k, omega arith, e)

  pub Contains-cons_cases : (y x : X) (xs : List X) → Contains (y ∷ xs) x → (y ≡ x) ⊎ Contains xs x
  Contains-cons_cases y x xs h = cons_by y x xs h.0 h.1 h.2

  pub Contains-nil : (x : X) → Contains [] x → ⊥
  Contains-nil x h = absurd (omega (arith, h.1))

  module _ (p : X → Bool) (y : X) (xs : List X) (x : X) where
    from_kept : p y ≡ true → (Contains (filter p xs) x → Contains xs x × (p x ≡ true))
        → (y ≡ x) ⊎ Contains (filter p xs) x → Contains (y ∷ xs) x × (p x ≡ true)
    from_kept is rest (inl same) = ((0, omega arith, same), ap p (sym same) ∙ is)
    from_kept is rest (inr later) = (Contains-later y x xs (rest later).0, (rest later).1)

    from_step : (b : Bool) → p y ≡ b → (Contains (filter p xs) x → Contains xs x × (p x ≡ true))
        → Contains (cond b (y ∷ filter p xs) (filter p xs)) x → Contains (y ∷ xs) x × (p x ≡ true)
    from_step true is rest g = from_kept is rest (Contains-cons_cases y x (filter p xs) g)
    from_step false is rest g = (Contains-later y x xs (rest g).0, (rest g).1)

    to_step : (b : Bool) → p y ≡ b → p x ≡ true → (Contains xs x → Contains (filter p xs) x) → (y ≡ x) ⊎ Contains xs x
        → Contains (cond b (y ∷ filter p xs) (filter p xs)) x
    to_step true at is rest (inl same) = (0, omega arith, same)
    to_step true at is rest (inr later) = Contains-later y x (filter p xs) (rest later)
    to_step false at is rest (inl same) = absurd (let e : false ≡ true = sym at ∙ ap p same ∙ is in cc)
    to_step false at is rest (inr later) = rest later

  pub Contains-from_filter : (p : X → Bool) (xs : List X) (x : X) → Contains (filter p xs) x
      → Contains xs x × (p x ≡ true)
  Contains-from_filter p [] x h = absurd (Contains-nil x h)
  Contains-from_filter p (y ∷ xs) x h = from_step p y xs x (p y) refl (Contains-from_filter p xs x) h

  pub Contains-filter : (p : X → Bool) (xs : List X) (x : X) → Contains xs x → p x ≡ true → Contains (filter p xs) x
  Contains-filter p [] x h is = absurd (Contains-nil x h)
  Contains-filter p (y ∷ xs) x h is =
      to_step p y xs x (p y) refl is (λ g. Contains-filter p xs x g is) (Contains-cons_cases y x xs h)

-- the members of a `map`
module _ {X Y : Type 0} (f : X → Y) where
  pub Contains-map : (xs : List X) (x : X) → Contains xs x → Contains (map f xs) (f x)
  Contains-map [] x h = absurd (Contains-nil x h)
  Contains-map (z ∷ xs) x h =
      elim (Contains-cons_cases z x xs h) as (λ _. Contains (map f (z ∷ xs)) (f x)) [
        | inl same ↦ (0, omega arith, ap f same)
        | inr later ↦ Contains-later (f z) (f x) (map f xs) (Contains-map xs x later)
      ]

  pub Contains-from_map : (xs : List X) (y : Y) → Contains (map f xs) y → (x : X) × Contains xs x × (f x ≡ y)
  Contains-from_map [] y h = absurd (Contains-nil y h)
  Contains-from_map (z ∷ xs) y h =
      elim (Contains-cons_cases (f z) y (map f xs) h) as (λ _. (x : X) × Contains (z ∷ xs) x × (f x ≡ y)) [
        | inl same ↦ (z, Contains-here z xs, same)
        | inr later ↦ let r = Contains-from_map xs y later in (r.0, Contains-later z r.0 xs r.1, r.2)
      ]

  pub SameMembers-map : (xs ys : List X) → SameMembers xs ys → SameMembers (map f xs) (map f ys)
  SameMembers-map xs ys h y = (
    λ there. let r = Contains-from_map xs y there in
        subst (Contains (map f ys)) r.2 (Contains-map ys r.0 ((h r.0).0 r.1)),
    λ there. let r = Contains-from_map ys y there in
        subst (Contains (map f xs)) r.2 (Contains-map xs r.0 ((h r.0).1 r.1)),
  )

module _ {X : Type 0} where
  pub SameMembers-sym : (xs ys : List X) → SameMembers xs ys → SameMembers ys xs
  SameMembers-sym xs ys h x = ((h x).1, (h x).0)

  pub SameMembers-trans : (xs ys zs : List X) → SameMembers xs ys → SameMembers ys zs → SameMembers xs zs
  SameMembers-trans xs ys zs h g x = (λ there. (g x).0 ((h x).0 there), λ there. (h x).1 ((g x).1 there))

  -- what holds for every member holds for every element
  pub All-from_members : (P : X → Type 0) (xs : List X) → ((x : X) → Contains xs x → P x) → All P xs
  All-from_members P xs h k d below = h (get_or xs k d) (Contains-get_or xs k d below)

  -- P holds for every element of a list, if it holds for those of a list with the same members
  pub All-same_members : (P : X → Type 0) (xs ys : List X) → SameMembers ys xs → All P xs → All P ys
  All-same_members P xs ys h all = All-from_members P ys (λ x there. All-contains P xs x all ((h x).0 there))

-- two strictly ascending lists with the same members are equal
module _ {X : Type 0} (R : X → X → Ordering) (o : IsTotalOrder R) where
  differ : (x y : X) → R x y ≡ Less → x ≡ y → ⊥
  differ x y less same = let e = tied_itself o x in let f = ap (R x) same in cc

  head_below : (x y : X) (xs : List X) → IsStrictlySortedBy R (x ∷ xs) → Contains xs y → R x y ≡ Less
  head_below x y xs up there =
      All-contains (λ z. R x z ≡ Less) xs y (All-from_recursion (λ z. R x z ≡ Less) xs (sorted_head R x xs up)) there

  same_head : (x y : X) (xs ys : List X) → IsStrictlySortedBy R (x ∷ xs) → IsStrictlySortedBy R (y ∷ ys)
      → SameMembers (x ∷ xs) (y ∷ ys) → x ≡ y
  same_head x y xs ys up vp h =
      elim (Contains-cons_cases y x ys ((h x).0 (Contains-here x xs))) as (λ _. x ≡ y) [
        | inl same ↦ sym same
        | inr later ↦ elim (Contains-cons_cases x y xs ((h y).1 (Contains-here y ys))) as (λ _. x ≡ y) [
          | inl same ↦ same
          | inr other ↦ absurd (differ y y (o.trans y x y (head_below y x ys vp later) (head_below x y xs up other))
              refl)
        ]
      ]

  same_tail : (x : X) (xs ys : List X) → IsStrictlySortedBy R (x ∷ xs) → SameMembers (x ∷ xs) (x ∷ ys) → (z : X)
      → Contains xs z → Contains ys z
  same_tail x xs ys up h z there =
      elim (Contains-cons_cases x z ys ((h z).0 (Contains-later x z xs there))) as (λ _. Contains ys z) [
        | inl same ↦ absurd (differ x z (head_below x z xs up there) same)
        | inr later ↦ later
      ]

  same_tails : (x y : X) (xs ys : List X) → x ≡ y → IsStrictlySortedBy R (x ∷ xs) → IsStrictlySortedBy R (y ∷ ys)
      → SameMembers (x ∷ xs) (y ∷ ys) → SameMembers xs ys
  same_tails x y xs ys same up vp h z =
      let g : SameMembers (x ∷ xs) (x ∷ ys) = subst (λ w. SameMembers (x ∷ xs) (w ∷ ys)) (sym same) h in
      let wp : IsStrictlySortedBy R (x ∷ ys) = subst (λ w. IsStrictlySortedBy R (w ∷ ys)) (sym same) vp in
      (same_tail x xs ys up g z, same_tail x ys xs wp (SameMembers-sym (x ∷ xs) (x ∷ ys) g) z)

  pub ascending_unique : (xs ys : List X) → IsStrictlySortedBy R xs → IsStrictlySortedBy R ys → SameMembers xs ys
      → xs ≡ ys
  ascending_unique [] [] up vp h = refl
  ascending_unique [] (y ∷ ys) up vp h = absurd (Contains-nil y ((h y).1 (Contains-here y ys)))
  ascending_unique (x ∷ xs) [] up vp h = absurd (Contains-nil x ((h x).0 (Contains-here x xs)))
  ascending_unique (x ∷ xs) (y ∷ ys) up vp h =
      let same = same_head x y xs ys up vp h in
      let rest = ascending_unique xs ys (sorted_tail R x xs up) (sorted_tail R y ys vp)
      (same_tails x y xs ys same up vp h) in
      ap (λ z. z ∷ xs) same ∙ ap (λ l. y ∷ l) rest
