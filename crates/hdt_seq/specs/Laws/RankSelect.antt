-- Laws of rank and select.
use Rattle.std.proofs.Common.{◌≡◌, ℕ, zero, suc, ◌+◌, ◌-◌, ◌<◌, ◌≤◌, Bool, true, false, cond, List, [], ◌∷◌, length}
use Rattle.std.proofs.Common.{get_or, take, slice_get, Some, refl, ap, sym, ◌∙◌, arith, le_of_suc-le-suc, inl, inr}
use Rattle.std.specs.List.{count_by, SomeIndex}
use Rattle.std.proofs.Math.Nat.{lt_of_not-le}
use Rattle.std.proofs.lemmas.Bool.{cases_lt}
use Rattle.std.proofs.lemmas.List.{length-take, take_all}
use Rattle.std.proofs.lemmas.List.Sums.{count_by-le-length, count_by_more_yes, count_by_more_no, sum_by-cons}
use Rattle.std.proofs.lemmas.Option.{get_or_from_slice_get, slice_get_within, slice_get-get_or}
use Rattle.hdt_seq.specs.RankSelect.{ones_before, IsSelect}

-- ---- rank from one position to the next

pub ones_before_at_0 : (bits : List Bool) → ones_before bits 0 ≡ 0
unfolding ones_before
ones_before_at_0 bits = refl

-- after a 1-bit there is one more
pub ones_before_after_1_bit : (bits : List Bool) (i : ℕ) → slice_get bits i ≡ Some true
    → ones_before bits (i + 1) ≡ ones_before bits i + 1
unfolding ones_before
ones_before_after_1_bit bits i is =
    count_by_more_yes (λ b. b) bits i false (slice_get_within bits i true is)
    (get_or_from_slice_get bits i true false is)

-- after a 0-bit there is no more
pub ones_before_after_0_bit : (bits : List Bool) (i : ℕ) → slice_get bits i ≡ Some false
    → ones_before bits (i + 1) ≡ ones_before bits i
unfolding ones_before
ones_before_after_0_bit bits i is =
    count_by_more_no (λ b. b) bits i false (slice_get_within bits i false is)
    (get_or_from_slice_get bits i false false is)

step_by : (bits : List Bool) (i : ℕ) (b : Bool) → slice_get bits i ≡ Some b
    → ones_before bits (i + 1) ≤ ones_before bits i + 1
step_by bits i true is = omega (arith, ones_before_after_1_bit bits i is)
step_by bits i false is = omega (arith, ones_before_after_0_bit bits i is)

-- after any bit there is at most one more
ones_before_step : (bits : List Bool) (i : ℕ) → i < length bits → ones_before bits (i + 1) ≤ ones_before bits i + 1
ones_before_step bits i h = step_by bits i (get_or bits i false) (slice_get-get_or bits i false h)

by_value : (bits : List Bool) (i : ℕ) → i < length bits → ones_before bits (i + 1) ≡ ones_before bits i + 1 → (b : Bool)
    → get_or bits i false ≡ b → slice_get bits i ≡ Some true
unfolding ones_before
by_value bits i h up true e = slice_get-get_or bits i false h ∙ ap Some e
by_value bits i h up false e = absurd (omega (arith, up, count_by_more_no (λ b. b) bits i false h e))

-- if the rank rises after a bit, that bit is 1
pub is_one_by_counts : (bits : List Bool) (i : ℕ) → i < length bits → ones_before bits (i + 1) ≡ ones_before bits i + 1
    → slice_get bits i ≡ Some true
is_one_by_counts bits i h up = by_value bits i h up (get_or bits i false) refl

-- ---- order

ones_before_cons : (b : Bool) (bits : List Bool) (i : ℕ)
    → ones_before (b ∷ bits) (suc i) ≡ cond b 1 0 + ones_before bits i
unfolding ones_before
ones_before_cons b bits i = sum_by-cons (λ x. cond x 1 0) b (take i bits)

ones_before_nil : (i : ℕ) → ones_before [] i ≡ 0
unfolding ones_before
ones_before_nil zero = refl
ones_before_nil (suc i) = refl

pub ones_before_mono : (bits : List Bool) (i j : ℕ) → i ≤ j → ones_before bits i ≤ ones_before bits j
ones_before_mono [] i j h = omega (arith, ones_before_nil i, ones_before_nil j)
ones_before_mono (b ∷ bits) zero j h = omega (arith, ones_before_at_0 (b ∷ bits))
ones_before_mono (b ∷ bits) (suc i) zero h = absurd (omega (arith, h))
ones_before_mono (b ∷ bits) (suc i) (suc j) h =
    omega (arith, ones_before_cons b bits i, ones_before_cons b bits j, ones_before_mono bits i j (le_of_suc-le-suc h))

-- the rank is at most the position
pub ones_before_le : (bits : List Bool) (i : ℕ) → ones_before bits i ≤ i
unfolding ones_before
ones_before_le bits i = omega (arith, count_by-le-length (λ b. b) (take i bits), length-take i bits)

-- past the last bit the rank is constant
pub ones_before_past_end : (bits : List Bool) (i j : ℕ) → length bits ≤ i → length bits ≤ j
    → ones_before bits i ≡ ones_before bits j
unfolding ones_before
ones_before_past_end bits i j h k = ap (count_by (λ b. b)) (take_all i bits h ∙ sym (take_all j bits k))

-- a position with a smaller rank is smaller
pub less_by_ones : (bits : List Bool) (i j : ℕ) → ones_before bits i < ones_before bits j → i < j
less_by_ones bits i j h = lt_of_not-le (λ le. omega (arith, h, ones_before_mono bits j i le))

pub less_than_length : (bits : List Bool) (i j : ℕ) → ones_before bits i < ones_before bits j → i < length bits
less_than_length bits i j h =
    lt_of_not-le (λ le. omega (
      arith,
      h,
      less_by_ones bits i j h,
      ones_before_past_end bits i j le (omega (arith, le, less_by_ones bits i j h)),
    ))

-- if the last bit is 1, each position before the end has a smaller rank than the end
pub ones_before_last : (bits : List Bool) (i : ℕ) → slice_get bits (length bits - 1) ≡ Some true → i < length bits
    → ones_before bits i < ones_before bits (length bits)
ones_before_last bits i last h =
    let end : length bits - 1 + 1 ≡ length bits = omega (arith, h) in
    omega (
      arith,
      ones_before_mono bits i (length bits - 1) (omega (arith, h)),
      ones_before_after_1_bit bits (length bits - 1) last,
      ap (ones_before bits) end,
    )

-- ---- select

-- each k from 1 up to a rank is the number of a 1-bit
select_exists : (bits : List Bool) (k n : ℕ) → 0 < k → k ≤ ones_before bits n → SomeIndex bits (IsSelect bits k)
select_exists bits k zero some h = absurd (omega (arith, some, h, ones_before_at_0 bits))
select_exists bits k (suc n) some h =
    elim (cases_lt (ones_before bits n) k) [
      | inl lt ↦
          let next : suc n ≡ n + 1 = omega arith in
          let up : ones_before bits n < ones_before bits (n + 1) = omega (arith, lt, h, ap (ones_before bits) next) in
          let within : n < length bits = less_than_length bits n (n + 1) up in
          let one : ones_before bits (n + 1) ≡ ones_before bits n + 1 =
          omega (arith, up, ones_before_step bits n within) in (
            n,
            within,
            record {
              is_one = is_one_by_counts bits n within one;
              before =
                  omega (arith, lt, h, one, ap (ones_before bits) next);
            },
          )
      | inr le ↦ select_exists bits k n some le
    ]

pub some_select : (bits : List Bool) (k : ℕ) → 0 < k → k ≤ ones_before bits (length bits)
    → SomeIndex bits (IsSelect bits k)
some_select bits k some h = select_exists bits k (length bits) some h

-- up to and including the k-th 1-bit there are k of them
pub ones_through_select : (bits : List Bool) (k i : ℕ) → IsSelect bits k i → ones_before bits (i + 1) ≡ k
ones_through_select bits k i place = ones_before_after_1_bit bits i place.is_one ∙ place.before

-- 1-bits are numbered in the order of their positions
pub select_ascends : (bits : List Bool) (k m i j : ℕ) → IsSelect bits k i → IsSelect bits m j → k < m → i < j
select_ascends bits k m i j first second lt = less_by_ones bits i j (omega (arith, first.before, second.before, lt))

-- there is at most one k-th 1-bit
pub select_unique : (bits : List Bool) (k i j : ℕ) → IsSelect bits k i → IsSelect bits k j → i ≡ j
select_unique bits k i j first second =
    let after = less_by_ones bits i (j + 1) (omega (arith, first.before, ones_through_select bits k j second)) in
    let before = less_by_ones bits j (i + 1) (omega (arith, second.before, ones_through_select bits k i first)) in
    omega (arith, after, before)
