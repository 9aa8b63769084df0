-- Counting in an ascending list of positions.
use Rattle.std.proofs.Common.{◌≡◌, ◌⊎◌, inl, inr, ◌∙◌, ℕ, ◌+◌, ◌-◌, ◌<◌, ◌≤◌, ◌==◌, zero, suc, List, [], ◌∷◌, length}
use Rattle.std.proofs.Common.{filter, map, slice_index, refl, ap, sym, subst, arith, Bool, true, false, cond, eq-eqb}
use Rattle.std.proofs.Common.{eq-or-lt_of_le}
use Rattle.std.proofs.lemmas.Bool.{cases_lt}
use Rattle.std.specs.List.{range_with_len}
use Rattle.std.specs.List.Sorted.{IsStrictlyIncreasing}
use Rattle.std.proofs.lemmas.List.FromFn.{length-range_with_len, get_or-range_with_len}
use Rattle.std.proofs.lemmas.List.Kept.{AllPairs-from_increasing, IsStrictlyIncreasing-filter}
use Rattle.hdt_triples.specs.declared.pattern.Pattern.{Pattern}
use Rattle.hdt_triples.specs.TripleSequences.{BitmapTriples, triple_at}
use Rattle.hdt_triples.specs.InvertedIndex.{positions_of, IsPositionOf}
use Rattle.hdt_triples.specs.Patterns.{agrees, matches}
use Rattle.hdt_triples.proofs.ObjectLaws.{among_positions}

-- The elements that are kept are those from `low` to `high`.
pub record Holds (js : List ℕ) (keep : ℕ → Bool) (low high : ℕ) : Type 0 where
  pub ordered : low ≤ high
  pub within : high ≤ length js
  pub before : (i : ℕ) → i < low → keep (slice_index js i) ≡ false
  pub inside : (i : ℕ) → low ≤ i → i < high → keep (slice_index js i) ≡ true
  pub over : (i : ℕ) → high ≤ i → i < length js → keep (slice_index js i) ≡ false

behind : (j : ℕ) (js : List ℕ) (keep : ℕ → Bool) (low high l h : ℕ) → l ≡ low - 1 → h ≡ high - 1
    → Holds (j ∷ js) keep low high → Holds js keep l h
behind j js keep low high l h low_is high_is holds = record {
  ordered = omega (arith, low_is, high_is, holds.ordered);
  within = omega (arith, high_is, holds.within);
  before = λ i b. holds.before (suc i) (omega (arith, low_is, b));
  inside = λ i a b. holds.inside (suc i) (omega (arith, low_is, a)) (omega (arith, high_is, b));
  over = λ i a b. holds.over (suc i) (omega (arith, high_is, a)) (omega (arith, b));
}

-- What is kept of the first element and of the rest.
first_kept : (j : ℕ) (js : List ℕ) (keep : ℕ → Bool) (b : Bool) → keep j ≡ b
    → length (filter keep (j ∷ js)) ≡ cond b 1 0 + length (filter keep js)
first_kept j js keep true is = omega (arith, ap (λ b. length (cond b (j ∷ filter keep js) (filter keep js))) is)
first_kept j js keep false is = omega (arith, ap (λ b. length (cond b (j ∷ filter keep js) (filter keep js))) is)

-- The number of elements that are kept.
pub part_count : (js : List ℕ) (keep : ℕ → Bool) (low high : ℕ) → Holds js keep low high
    → length (filter keep js) + low ≡ high
part_count [] keep low high h = omega (arith, h.ordered, h.within)
part_count (j ∷ js) keep low zero h =
    omega (
      arith,
      h.ordered,
      first_kept j js keep false (h.over 0 (omega arith) (omega arith)),
      part_count js keep 0 0 (behind j js keep low zero 0 0 (omega (arith, h.ordered)) refl h),
    )
part_count (j ∷ js) keep zero (suc high) h =
    omega (
      arith,
      first_kept j js keep true (h.inside 0 (omega arith) (omega arith)),
      part_count js keep 0 high (behind j js keep zero (suc high) 0 high refl (omega arith) h),
    )
part_count (j ∷ js) keep (suc low) (suc high) h =
    omega (
      arith,
      first_kept j js keep false (h.before 0 (omega arith)),
      part_count js keep low high (behind j js keep (suc low) (suc high) low high (omega arith) (omega arith) h),
    )

range_rises : (a n : ℕ) → IsStrictlyIncreasing (range_with_len a n)
range_rises a n k h =
    let within : k + 1 < n = omega (arith, h, length-range_with_len a n) in
    omega (arith, get_or-range_with_len a n k 0 (omega (arith, within)), get_or-range_with_len a n (k + 1) 0 within)

-- The positions of a key ascend.
positions_ascend : (xs : List ℕ) (k i j : ℕ) → i < j → j < length (positions_of xs k)
    → slice_index (positions_of xs k) i < slice_index (positions_of xs k) j
positions_ascend xs k i j less within =
    AllPairs-from_increasing (positions_of xs k)
    (IsStrictlyIncreasing-filter (λ i. slice_index xs i == k) (range_with_len 0 (length xs))
    (range_rises 0 (length xs))) i j 0 less within

pub list_ascends : (xs js : List ℕ) (k : ℕ) → js ≡ positions_of xs k → (i j : ℕ) → i < j → j < length js
    → slice_index js i < slice_index js j
list_ascends xs js k is =
    subst (λ (l : List ℕ). (i j : ℕ) → i < j → j < length l
    → slice_index l i < slice_index l j) (sym is) (positions_ascend xs k)

-- Each of them is a position of the key.
pub held_at : (xs js : List ℕ) (k i : ℕ) → js ≡ positions_of xs k → i < length js → IsPositionOf xs k (slice_index js i)
held_at xs js k i is h =
    subst (λ (l : List ℕ). IsPositionOf xs k (slice_index l i)) (sym is)
    (among_positions xs k i 0 (omega (arith, h, ap length is)))

-- Matching the triples of a list of indices is filtering the indices.
mapped_by : (p : Pattern) (f : BitmapTriples) (j : ℕ) (js : List ℕ) (b : Bool) → agrees p (triple_at f j) ≡ b
    → length (filter (agrees p) (map (triple_at f) js)) ≡ length (filter (λ j. agrees p (triple_at f j)) js)
    → length (filter (agrees p) (map (triple_at f) (j ∷ js))) ≡ length (filter (λ j. agrees p (triple_at f j)) (j ∷ js))
mapped_by p f j js true is rest =
    omega (
      arith,
      rest,
      first_kept j js (λ j. agrees p (triple_at f j)) true is,
      ap (λ b. length (cond b (triple_at f j ∷ filter (agrees p) (map (triple_at f) js))
          (filter (agrees p) (map (triple_at f) js)))) is,
    )
mapped_by p f j js false is rest =
    omega (
      arith,
      rest,
      first_kept j js (λ j. agrees p (triple_at f j)) false is,
      ap (λ b. length (cond b (triple_at f j ∷ filter (agrees p) (map (triple_at f) js))
          (filter (agrees p) (map (triple_at f) js)))) is,
    )

pub matches_mapped : (p : Pattern) (f : BitmapTriples) (js : List ℕ)
    → length (matches p (map (triple_at f) js)) ≡ length (filter (λ j. agrees p (triple_at f j)) js)
unfolding matches
matches_mapped p f [] = refl
matches_mapped p f (j ∷ js) = mapped_by p f j js (agrees p (triple_at f j)) refl (matches_mapped p f js)

-- ---- membership of a position in its list

abbrev HasElement : List ℕ → ℕ → Type 0
HasElement js i = (m : ℕ) × (m < length js) × (slice_index js m ≡ i)

has_element_by : (js : List ℕ) (a i : ℕ) (b : Bool) → (a ≡ i → b ≡ true) → (a ≡ i) ⊎ HasElement js i
    → HasElement (cond b (a ∷ js) js) i
has_element_by js a i true own (inl e) = (0, omega arith, e)
has_element_by js a i true own (inr s) = (suc s.0, omega (arith, s.1), s.2)
has_element_by js a i false own (inl e) = let no : false ≡ true = own e in absurd (cc)
has_element_by js a i false own (inr s) = s

abbrev kept : List ℕ → ℕ → ℕ → ℕ → List ℕ
kept xs k a n = filter (λ i. slice_index xs i == k) (range_with_len a n)

stands_from : (n : ℕ) (xs : List ℕ) (k a i : ℕ) → a ≤ i → i < a + n → slice_index xs i ≡ k → (a ≡ i) ⊎ (a < i)
    → HasElement (kept xs k a n) i
stands_from zero xs k a i from to is c = absurd (omega (arith, from, to))
stands_from (suc n) xs k a i from to is (inl e) =
    has_element_by (kept xs k (a + 1) n) a i (slice_index xs a == k)
    (λ same. eq-eqb (slice_index xs a) k (ap (slice_index xs) same ∙ is)) (inl e)
stands_from (suc n) xs k a i from to is (inr less) =
    has_element_by (kept xs k (a + 1) n) a i (slice_index xs a == k)
    (λ same. eq-eqb (slice_index xs a) k (ap (slice_index xs) same ∙ is))
    (inr (stands_from n xs k (a + 1) i (omega (arith, less)) (omega (arith, to)) is
    (eq-or-lt_of_le (omega (arith, less)))))

pub place_stands : (xs js : List ℕ) (k i : ℕ) → js ≡ positions_of xs k → IsPositionOf xs k i → (m : ℕ) × (m < length js)
    × (slice_index js m ≡ i)
place_stands xs js k i is position =
    subst (λ (l : List ℕ). HasElement l i) (sym is)
    (stands_from (length xs) xs k 0 i (omega arith) (omega (arith, position.0)) position.1
    (eq-or-lt_of_le (omega arith)))

at_or_behind : (js : List ℕ) (next m : ℕ) → ((i j : ℕ) → i < j → j < length js → slice_index js i < slice_index js j)
    → m < length js → (next ≡ m) ⊎ (next < m) → slice_index js next ≤ slice_index js m
at_or_behind js next m up h (inl e) = omega (arith, ap (slice_index js) e)
at_or_behind js next m up h (inr less) = omega (arith, up next m less h)

behind_by : (js : List ℕ) (from next i m : ℕ)
    → ((i j : ℕ) → i < j → j < length js → slice_index js i < slice_index js j)
    → ((i : ℕ) → i < next → slice_index js i < from)
    → m < length js → slice_index js m ≡ i → from ≤ i → (m < next) ⊎ (next ≤ m) → slice_index js next ≤ i
behind_by js from next i m up below h is l (inl less) = absurd (omega (arith, below m less, is, l))
behind_by js from next i m up below h is l (inr more) =
    omega (arith, is, at_or_behind js next m up h (eq-or-lt_of_le more))

-- If the elements before `next` are below `from`, element `next` is the first position from `from` on.
pub next_is_first : (xs js : List ℕ) (k from next i : ℕ) → js ≡ positions_of xs k
    → ((i : ℕ) → i < next → slice_index js i < from) → from ≤ i → i < length xs → slice_index xs i ≡ k
    → slice_index js next ≤ i
next_is_first xs js k from next i is below l h own =
    let m = place_stands xs js k i is (h, own) in
    behind_by js from next i m.0 (list_ascends xs js k is) below m.1 m.2 l (cases_lt m.0 next)

-- If all elements are below `from`, there is no position from `from` on.
pub none_after : (xs js : List ℕ) (k from next i : ℕ) → js ≡ positions_of xs k → length js ≤ next
    → ((i : ℕ) → i < next → slice_index js i < from) → from ≤ i → i < length xs → slice_index xs i ≡ k → ⊥
none_after xs js k from next i is all below l h own =
    let m = place_stands xs js k i is (h, own) in
    absurd (omega (arith, below m.0 (omega (arith, m.1, all)), m.2, l))
