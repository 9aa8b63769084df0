-- Groups of equal neighbours: their bitmap, their first elements, and how both correspond.
use Rattle.std.proofs.Common.{◌≡◌, ◌≢◌, ℕ, ◌+◌, ◌-◌, ◌<◌, ◌≤◌, suc, zero, Bool, true, false, not, cond, List, [], ◌∷◌}
use Rattle.std.proofs.Common.{◌++◌, length, get_or, take, map, slice_get, Some, refl, ap, sym, ◌∙◌, subst, arith, eqb}
use Rattle.std.specs.List.{dedup, dedup_from}
use Rattle.std.proofs.lemmas.List.{take_all, take_more}
use Rattle.std.proofs.lemmas.List.Sums.{sum_by-cons}
use Rattle.std.proofs.lemmas.Bool.{eqb-true, eq-eqb}
use Rattle.hdt_seq.specs.RankSelect.{ones_before}
use Rattle.hdt_seq.specs.Laws.RankSelect.{ones_before_at_0, ones_before_last}
use Rattle.hdt_triples.specs.Groups.{group_end_bits, group_end_bits_from}

ones_before_cons : (b : Bool) (bits : List Bool) (i : ℕ)
    → ones_before (b ∷ bits) (suc i) ≡ cond b 1 0 + ones_before bits i
unfolding ones_before
ones_before_cons b bits i = sum_by-cons (λ x. cond x 1 0) b (take i bits)

module _ {X : Type 0} (same : X → X → Bool) where
  pub length-group_end_bits_from : (k : X) (xs : List X) → length (group_end_bits_from same k xs) ≡ suc (length xs)
  length-group_end_bits_from k [] = refl
  length-group_end_bits_from k (x ∷ xs) = ap suc (length-group_end_bits_from x xs)

  pub length-group_end_bits : (xs : List X) → length (group_end_bits same xs) ≡ length xs
  length-group_end_bits [] = refl
  length-group_end_bits (x ∷ xs) = length-group_end_bits_from x xs

  -- The last bit is 1.
  pub last_marked : (k : X) (xs : List X) → slice_get (group_end_bits_from same k xs) (length xs) ≡ Some true
  last_marked k [] = refl
  last_marked k (x ∷ xs) = last_marked x xs

  -- A bit before the last one is 1 if the next element differs.
  pub end_bit_inside : (xs : List X) (i : ℕ) (d : X) → i + 1 < length xs
      → get_or (group_end_bits same xs) i false ≡ not (same (get_or xs (i + 1) d) (get_or xs i d))
  end_bit_inside [] i d h = absurd (omega arith)
  end_bit_inside (x ∷ []) i d h = absurd (omega arith)
  end_bit_inside (x ∷ y ∷ xs) zero d h = refl
  end_bit_inside (x ∷ y ∷ xs) (suc i) d h =
      let e : suc (i + 1) ≡ suc i + 1 = omega arith in
      end_bit_inside (y ∷ xs) i d (omega arith) ∙ ap (λ j. not (same (get_or (x ∷ y ∷ xs) j d) (get_or (y ∷ xs) i d))) e

  -- The last bit is 1.
  pub end_bit_at_end : (xs : List X) (i : ℕ) → i + 1 ≡ length xs → get_or (group_end_bits same xs) i false ≡ true
  end_bit_at_end [] i h = absurd (omega arith)
  end_bit_at_end (x ∷ []) zero h = refl
  end_bit_at_end (x ∷ []) (suc i) h = absurd (omega arith)
  end_bit_at_end (x ∷ y ∷ xs) zero h = absurd (omega arith)
  end_bit_at_end (x ∷ y ∷ xs) (suc i) h = end_bit_at_end (y ∷ xs) i (omega arith)

  head_of : (k : X) (xs : List X) (d : X) → get_or (dedup_from same k xs) 0 d ≡ k
  head_of k [] d = refl
  head_of k (x ∷ xs) d = by (same x k) (dedup_from same x xs) (head_of k xs d)
    where
      by : (b : Bool) (l : List X) → get_or (dedup_from same k xs) 0 d ≡ k
          → get_or (cond b (dedup_from same k xs) (k ∷ l)) 0 d ≡ k
      by true l e = e
      by false l e = refl

  module _ (exact : (x y : X) → same x y ≡ true → x ≡ y) where
    -- The 1-bits before index i count the groups before it, so they give the index of its group.
    at_step : (k x : X) (xs : List X) (i : ℕ) (d : X) (b : Bool) → same x k ≡ b
        → get_or (dedup_from same x xs) (ones_before (group_end_bits_from same x xs) i) d ≡ get_or (x ∷ xs) i d
        → get_or (cond b (dedup_from same k xs) (k ∷ dedup_from same x xs))
        (cond (not b) 1 0 + ones_before (group_end_bits_from same x xs) i) d ≡ get_or (x ∷ xs) i d
    at_step k x xs i d true e h =
        let n = ones_before (group_end_bits_from same x xs) i in
        let zero_and : 0 + n ≡ n = omega arith in
        ap (get_or (dedup_from same k xs) (0 + n)) refl ∙ ap (λ j. get_or (dedup_from same k xs) j d) zero_and
        ∙ ap (λ y. get_or (dedup_from same y xs) n d) (sym (exact x k e)) ∙ h
    at_step k x xs i d false e h =
        let n = ones_before (group_end_bits_from same x xs) i in
        let one_and : 1 + n ≡ suc n = omega arith in
        ap (λ j. get_or (k ∷ dedup_from same x xs) j d) one_and ∙ h

    pub group_at_from : (k : X) (xs : List X) (i : ℕ) (d : X) → i < suc (length xs)
        → get_or (dedup_from same k xs) (ones_before (group_end_bits_from same k xs) i) d ≡ get_or (k ∷ xs) i d
    group_at_from k xs zero d h =
        ap (λ n. get_or (dedup_from same k xs) n d) (ones_before_at_0 (group_end_bits_from same k xs)) ∙ head_of k xs d
    group_at_from k [] (suc i) d h = absurd (omega arith)
    group_at_from k (x ∷ xs) (suc i) d h =
        ap (λ n. get_or (dedup_from same k (x ∷ xs)) n d)
        (ones_before_cons (not (same x k)) (group_end_bits_from same x xs) i)
        ∙ at_step k x xs i d (same x k) refl (group_at_from x xs i d (omega arith))

    pub group_at : (xs : List X) (i : ℕ) (d : X) → i < length xs
        → get_or (dedup same xs) (ones_before (group_end_bits same xs) i) d ≡ get_or xs i d
    group_at [] i d h = absurd (omega arith)
    group_at (x ∷ xs) i d h = group_at_from x xs i d h

    -- There are as many 1-bits as groups.
    count_step : (k x : X) (xs : List X) (b : Bool) → same x k ≡ b → (n : ℕ) → n ≡ length (dedup_from same x xs)
        → cond (not b) 1 0 + n ≡ length (cond b (dedup_from same k xs) (k ∷ dedup_from same x xs))
    count_step k x xs true e n h = let f = ap (λ y. length (dedup_from same y xs)) (exact x k e) in omega arith
    count_step k x xs false e n h = omega arith

    pub groups_from : (k : X) (xs : List X) → ones_before (group_end_bits_from same k xs) (suc (length xs))
        ≡ length (dedup_from same k xs)
    groups_from k [] = ones_before_cons true [] 0 ∙ ap (λ n. 1 + n) (ones_before_at_0 [])
    groups_from k (x ∷ xs) = ones_before_cons (not (same x k)) (group_end_bits_from same x xs) (suc (length xs))
        ∙ count_step k x xs (same x k) refl _ (groups_from x xs)

    pub groups : (xs : List X) → ones_before (group_end_bits same xs) (length (group_end_bits same xs))
        ≡ length (dedup same xs)
    groups [] = ones_before_at_0 []
    groups (x ∷ xs) = ap (ones_before (group_end_bits_from same x xs)) (length-group_end_bits_from x xs)
        ∙ groups_from x xs

-- The last bit of a non-empty list is 1.
pub last_end_bit_is_set : {X : Type 0} (same : X → X → Bool) (xs : List X) → 0 < length xs
    → slice_get (group_end_bits same xs) (length (group_end_bits same xs) - 1) ≡ Some true
last_end_bit_is_set same [] h = absurd (omega arith)
last_end_bit_is_set same (x ∷ xs) h =
    let e : length (group_end_bits_from same x xs) - 1 ≡ length xs =
    omega (arith, length-group_end_bits_from same x xs) in
    ap (slice_get (group_end_bits_from same x xs)) e ∙ last_marked same x xs

-- One iteration of a loop that builds the bitmap.
pub end_bits_more : {X : Type 0} (same : X → X → Bool) (xs : List X) (made : List Bool) (i : ℕ) (b : Bool)
    → i < length xs → b ≡ get_or (group_end_bits same xs) i false → made ≡ take i (group_end_bits same xs)
    → made ++ b ∷ [] ≡ take (i + 1) (group_end_bits same xs)
end_bits_more same xs made i b h is front = (λ j. front j ++ is j ∷ [])
    ∙ sym (take_more (group_end_bits same xs) i false (omega (arith, length-group_end_bits same xs)))

pub end_bits_all : {X : Type 0} (same : X → X → Bool) (xs : List X) (made : List Bool) (i : ℕ) → length xs ≤ i
    → made ≡ take i (group_end_bits same xs) → made ≡ group_end_bits same xs
end_bits_all same xs made i h is =
    is ∙ take_all i (group_end_bits same xs) (omega (arith, length-group_end_bits same xs))

-- What holds for all elements holds for all groups.
module _ {X : Type 0} (same : X → X → Bool) (P : X → Type 0) where
  abbrev Each : List X → Type 0
  Each ys = (i : ℕ) (d : X) → i < length ys → P (get_or ys i d)

  all_from : (k : X) (xs : List X) → P k → Each xs → Each (dedup_from same k xs)
  all_from k [] pk h zero d lt = pk
  all_from k [] pk h (suc i) d lt = absurd (omega arith)
  all_from k (x ∷ xs) pk h i d lt =
      by (all_from k xs pk (λ i d lt. h (suc i) d (omega arith)))
      (all_from x xs (h 0 x (omega arith)) (λ i d lt. h (suc i) d (omega arith))) (same x k) i d lt
    where
      by : Each (dedup_from same k xs) → Each (dedup_from same x xs) → (b : Bool)
          → Each (cond b (dedup_from same k xs) (k ∷ dedup_from same x xs))
      by on next true i d lt = on i d lt
      by on next false zero d lt = pk
      by on next false (suc i) d lt = next i d (omega arith)

  pub all_groups : (xs : List X) → Each xs → Each (dedup same xs)
  all_groups [] h i d lt = absurd (omega arith)
  all_groups (x ∷ xs) h i d lt = all_from x xs (h 0 x (omega arith)) (λ i d lt. h (suc i) d (omega arith)) i d lt

-- The group of each element exists.
module _ {X : Type 0} (same : X → X → Bool) (exact : (x y : X) → same x y ≡ true → x ≡ y) where
  pub group_within : (xs : List X) (i : ℕ) → i < length xs
      → ones_before (group_end_bits same xs) i < length (dedup same xs)
  group_within xs i h =
      let long = length-group_end_bits same xs in
      omega (
        arith,
        ones_before_last (group_end_bits same xs) i (last_end_bit_is_set same xs (omega (arith, h)))
            (omega (arith, h, long)),
        groups same exact xs,
      )

  -- What holds for neighbours that differ holds for neighbouring groups.
  module _ (R : X → X → Type 0) where
    abbrev Linked : List X → ℕ → X → Type 0
    Linked xs i d = R (get_or xs i d) (get_or xs (i + 1) d)

    abbrev Apart : X → X → Type 0
    Apart x y = same y x ≡ false → R x y

    linked_step : (k x : X) (xs : List X) → Apart k x
        → ((i : ℕ) (d : X) → i + 1 < length (dedup_from same x xs) → Linked (dedup_from same x xs) i d)
        → (b : Bool) → same x k ≡ b → (i : ℕ) (d : X)
        → i + 1 < length (cond b (dedup_from same k xs) (k ∷ dedup_from same x xs))
        → Linked (cond b (dedup_from same k xs) (k ∷ dedup_from same x xs)) i d
    linked_step k x xs r h true e i d lt =
        subst (λ y. (i : ℕ) (d : X) → i + 1 < length (dedup_from same y xs)
        → Linked (dedup_from same y xs) i d) (exact x k e) h i d lt
    linked_step k x xs r h false e zero d lt = subst (R k) (sym (head_of same x xs d)) (r e)
    linked_step k x xs r h false e (suc i) d lt =
        let next : suc (i + 1) ≡ suc i + 1 = omega arith in
        subst (λ j. R (get_or (dedup_from same x xs) i d) (get_or (k ∷ dedup_from same x xs) j d)) next
        (h i d (omega arith))

    linked_from : (k : X) (xs : List X)
        → ((i : ℕ) (d : X) → i + 1 < length (k ∷ xs) → Apart (get_or (k ∷ xs) i d) (get_or (k ∷ xs) (i + 1) d))
        → (i : ℕ) (d : X) → i + 1 < length (dedup_from same k xs) → Linked (dedup_from same k xs) i d
    linked_from k [] h i d lt = absurd (omega arith)
    linked_from k (x ∷ xs) h i d lt =
        linked_step k x xs (h 0 x (omega arith))
        (linked_from x xs (λ i d below. let next : suc i + 1 ≡ suc (i + 1) = omega arith in
        subst (λ j. Apart (get_or (x ∷ xs) i d) (get_or (k ∷ x ∷ xs) j d)) next (h (suc i) d (omega arith))))
        (same x k) refl i d lt

    pub linked_groups : (xs : List X)
        → ((i : ℕ) (d : X) → i + 1 < length xs → Apart (get_or xs i d) (get_or xs (i + 1) d)) → (i : ℕ) (d : X)
        → i + 1 < length (dedup same xs) → Linked (dedup same xs) i d
    linked_groups [] h i d lt = absurd (omega arith)
    linked_groups (x ∷ xs) h i d lt = linked_from x xs h i d lt

-- If numbers rise by at most one, each is the first number plus the 1-bits before it.
module _ where
  step_by : (x y : ℕ) (b : Bool) → eqb y x ≡ b → x ≤ y → y ≤ x + 1 → y ≡ x + cond (not b) 1 0
  step_by x y true e low high = omega (arith, eqb-true y x e)
  step_by x y false e low high =
      let apart : y ≢ x = λ is. let f = eq-eqb y x is in cc in
      omega arith

  counted_from : (x : ℕ) (xs : List ℕ)
      → ((i d : ℕ) → i + 1 < length (x ∷ xs) → (get_or (x ∷ xs) i d ≤ get_or (x ∷ xs) (i + 1) d)
      × (get_or (x ∷ xs) (i + 1) d ≤ get_or (x ∷ xs) i d + 1)) → (q d : ℕ) → q < suc (length xs)
      → get_or (x ∷ xs) q d ≡ x + ones_before (group_end_bits_from eqb x xs) q
  counted_from x xs h zero d lt = omega (arith, ones_before_at_0 (group_end_bits_from eqb x xs))
  counted_from x [] h (suc q) d lt = absurd (omega arith)
  counted_from x (y ∷ ys) h (suc q) d lt =
      let r = h 0 d (omega arith) in
      let up = step_by x y (eqb y x) refl r.0 r.1 in
      let rest = counted_from y ys (λ i d below. let next : suc i + 1 ≡ suc (i + 1) = omega arith in
      subst (λ j. (get_or (y ∷ ys) i d ≤ get_or (x ∷ y ∷ ys) j d)
      × (get_or (x ∷ y ∷ ys) j d ≤ get_or (y ∷ ys) i d + 1)) next (h (suc i) d (omega arith))) q d (omega arith) in
      omega (arith, rest, up, ones_before_cons (not (eqb y x)) (group_end_bits_from eqb y ys) q)

  pub counted : (xs : List ℕ) → ((d : ℕ) → 0 < length xs → get_or xs 0 d ≡ 1)
      → ((i d : ℕ) → i + 1 < length xs → (get_or xs i d ≤ get_or xs (i + 1) d)
      × (get_or xs (i + 1) d ≤ get_or xs i d + 1)) → (q d : ℕ) → q < length xs
      → get_or xs q d ≡ ones_before (group_end_bits eqb xs) q + 1
  counted [] first h q d lt = absurd (omega arith)
  counted (x ∷ xs) first h q d lt = omega (arith, counted_from x xs h q d lt, first d (omega arith))

-- An element of a `map`, for a mapped default.
pub get_or-map_any : {X Y : Type 0} (f : X → Y) (xs : List X) (i : ℕ) (d : X)
    → get_or (map f xs) i (f d) ≡ f (get_or xs i d)
get_or-map_any f [] i d = refl
get_or-map_any f (x ∷ xs) zero d = refl
get_or-map_any f (x ∷ xs) (suc i) d = get_or-map_any f xs i d

pub first_group : {X : Type 0} (same : X → X → Bool) (xs : List X) (d : X) → get_or (dedup same xs) 0 d ≡ get_or xs 0 d
first_group same [] d = refl
first_group same (x ∷ xs) d = head_of same x xs d
