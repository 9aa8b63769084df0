-- Reading a VByte number: the invariant of the loop over its bytes.
use Rattle.std.proofs.Common.{◌≡◌, ℕ, ◌+◌, ◌*◌, ◌%◌, ◌^◌, ◌<◌, ◌≤◌, Bool, List, [], ◌∷◌, ◌++◌, length, get_or, take}
use Rattle.std.proofs.Common.{leb, lit<, sym, arith, inl, inr}
use Rattle.std.specs.Prelude.{not}
use Rattle.std.specs.List.{prefix_len, position_or_len}
use Rattle.std.proofs.Math.Nat.{pow-suc, pow-le-pow_right, mul-le-mul}
use Rattle.std.proofs.lemmas.Bool.{cases_lt, leb-true}
use Rattle.std.proofs.lemmas.List.Sums.{prefix_len_stops, prefix_len-le-length}
use Rattle.std.proofs.lemmas.List.{take_more, length-take}
use Rattle.hdt_wire.specs.Laws.Checks.{not-false}
use Rattle.hdt_wire.specs.VByte.{base128_value}

-- ---- the value of the digits so far

pub base128_value_push : (xs : List ℕ) (b : ℕ)
    → base128_value (xs ++ b ∷ []) ≡ base128_value xs + b % 128 * 128 ^ length xs
base128_value_push [] b = omega arith
base128_value_push (x ∷ xs) b =
    let e : base128_value (xs ++ b ∷ []) ≡ base128_value xs + b % 128 * 128 ^ length xs = base128_value_push xs b in
    rw (e, pow-suc) (omega arith)

pub base128_value_below : (xs : List ℕ) → base128_value xs < 128 ^ length xs
base128_value_below [] = omega arith
base128_value_below (x ∷ xs) = omega (arith, base128_value_below xs, pow-suc 128 (length xs))

-- the value and the scale after the digits before index i
pub record ValueSoFar (seen : List ℕ) (i value scale : ℕ) : Type 0 where
  pub is_number : value ≡ base128_value (take i seen)
  pub is_scale : scale ≡ 128 ^ i
  pub low : (k : ℕ) → k < i → get_or seen k 0 < 128

pub scale_fits : (i : ℕ) → i < 10 → 128 ^ i ≤ 2 ^ 63
scale_fits i lt =
    let le : i ≤ 9 = omega arith in
    pow-le-pow_right (lit< tt) le

-- no byte has its top bit set
pub no_last : (seen : List ℕ) → ((k : ℕ) → k < length seen → get_or seen k 0 < 128)
    → position_or_len (λ b. leb 128 b) seen ≡ length seen
no_last seen low =
    let p : ℕ → Bool = λ b. not (leb 128 b) in
    elim (cases_lt (prefix_len p seen) (length seen)) [
      | inl before ↦
          let big = leb-true 128 _ (not-false _ (prefix_len_stops p seen 0 before)) in
          absurd (omega (arith, big, low (prefix_len p seen) before))
      | inr le ↦ omega (arith, le, prefix_len-le-length p seen)
    ]

-- the value after one more digit
pub base128_value_more : (seen : List ℕ) (i value scale : ℕ) → ValueSoFar seen i value scale → i < length seen
    → value + get_or seen i 0 % 128 * scale ≡ base128_value (take (i + 1) seen)
base128_value_more seen i value scale h lt =
    let len : length (take i seen) ≡ i = omega (arith, length-take i seen) in
    let e : base128_value (take (i + 1) seen)
    ≡ base128_value (take i seen) + get_or seen i 0 % 128 * 128 ^ length (take i seen) =
    rw (take_more seen i 0 lt) (base128_value_push (take i seen) (get_or seen i 0)) in
    let f : base128_value (take (i + 1) seen) ≡ base128_value (take i seen) + get_or seen i 0 % 128 * 128 ^ i =
    rw len at e in
    rw (h.is_number, h.is_scale) (sym f)

-- the value and the scale don't overflow
pub ValueSoFar-fit : (seen : List ℕ) (i value scale : ℕ) → ValueSoFar seen i value scale → i < length seen
    → length seen ≤ 10 → (value < scale) × (scale ≤ 2 ^ 63)
ValueSoFar-fit seen i value scale h lt short =
    let len : length (take i seen) ≡ i = omega (arith, length-take i seen) in
    let below : base128_value (take i seen) < 128 ^ i = rw len at (base128_value_below (take i seen)) in
    (rw (h.is_number, h.is_scale) below, rw h.is_scale (scale_fits i (omega arith)))

pub digit_fits : (b value scale : ℕ) → value < scale → scale ≤ 2 ^ 63 → value + b % 128 * scale < 2 ^ 71
digit_fits b value scale lt le =
    let small : b % 128 ≤ 128 = omega arith in
    let m : b % 128 * scale ≤ 128 * 2 ^ 63 = mul-le-mul small le in
    omega (arith, m)
