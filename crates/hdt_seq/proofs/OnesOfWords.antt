-- The 1-bits of a bitmap, counted by those of words.
use Rattle.std.proofs.Common.{◌≡◌, ℕ, ◌+◌, ◌-◌, ◌*◌, ◌/◌, ◌%◌, ◌^◌, ◌<◌, ◌≤◌, zero, suc, List, Bool, true, false, cond}
use Rattle.std.proofs.Common.{nat_eq, nat_lt, bit_and, map, refl, ap, subst, sym, ◌∙◌, arith, add-zero, ltb-true}
use Rattle.std.proofs.Common.{ltb-false}
use Rattle.std.proofs.lemmas.Nat.{shr-shr, mod-pow-add, ones_cat, mod_below, pow_pos, one_shl, and_mask}
use Rattle.std.proofs.Math.Nat.{mod-one}
use Rattle.std.proofs.lemmas.List.FromFn.{take-map-range_with_len, sum_by-map-range_with_len_more}
use Rattle.std.specs.List.{range_with_len, count_by}
use Rattle.std.specs.Int.Count.{ones}
use Rattle.hdt_seq.specs.PackedBits.{little, bit, bits}
use Rattle.hdt_seq.specs.Laws.LittleEndian.{mod_less}
use Rattle.hdt_seq.specs.RankSelect.{ones_before}

-- ---- the 1-bits of a number

abbrev digit : Bool → ℕ
digit b = cond b 1 0

ones_bit : (x : ℕ) → x < 2 → ones x ≡ digit (nat_eq x 1)
unfolding ones
ones_bit zero h = refl
ones_bit (suc zero) h = refl
ones_bit (suc (suc x)) h = absurd (omega (arith, h))

-- the 1-bits of the lowest k + 1 bits are those of the lowest k, and bit k
ones_more : (n k : ℕ) → ones (n % 2 ^ (k + 1)) ≡ ones (n % 2 ^ k) + digit (nat_eq (n / 2 ^ k % 2) 1)
ones_more n k =
    ap (λ m. ones (n % 2 ^ m)) (let e : k + 1 ≡ 1 + k = omega arith in e)
    ∙ ap ones (mod-pow-add n 1 k)
    ∙ ones_cat k (n / 2 ^ k % 2) (n % 2 ^ k) (mod_below n (2 ^ k) (pow_pos k))
    ∙ ap (λ m. m + ones (n % 2 ^ k)) (ones_bit (n / 2 ^ k % 2) (mod_below (n / 2 ^ k) 2 (omega arith)))
    ∙ (omega arith)

digit_small : (b : Bool) → digit b ≤ 1
digit_small true = omega arith
digit_small false = omega arith

-- one more bit adds at most one
pub ones_step : (n k : ℕ) → ones (n % 2 ^ (k + 1)) ≤ ones (n % 2 ^ k) + 1
ones_step n k = omega (arith, ones_more n k, digit_small (nat_eq (n / 2 ^ k % 2) 1))

-- more bits have no fewer 1-bits
pub ones_up : (n j d : ℕ) → ones (n % 2 ^ j) ≤ ones (n % 2 ^ (j + d))
ones_up n j zero = omega (arith, ap (λ m. ones (n % 2 ^ m)) (add-zero j))
ones_up n j (suc d) = let e : j + suc d ≡ j + d + 1 = omega arith in
    omega (arith, ones_up n j d, ones_more n (j + d), ap (λ m. ones (n % 2 ^ m)) e)

-- the half of the remaining positions that has the k-th 1-bit
pub halved : (b : Bool) (w k low half bit : ℕ) → nat_lt (ones (w % 2 ^ (low + half))) k ≡ b → bit ≡ cond b 1 0
    → ones (w % 2 ^ low) < k → k ≤ ones (w % 2 ^ (low + (half + half)))
    → (ones (w % 2 ^ (low + bit * half)) < k) × (k ≤ ones (w % 2 ^ (low + bit * half + half)))
    × (low + bit * half + half ≤ low + (half + half))
halved true w k low half bit fewer is before through =
    let up : low + half ≡ low + bit * half = (omega arith) ∙ ap (λ b. low + b * half) (sym is) in
    let end : low + (half + half) ≡ low + bit * half + half = (omega arith) ∙ ap (λ n. n + half) up in (
      subst (λ n. ones (w % 2 ^ n) < k) up (ltb-true _ _ fewer),
      subst (λ n. k ≤ ones (w % 2 ^ n)) end through,
      omega (arith, end),
    )
halved false w k low half bit fewer is before through =
    let up : low ≡ low + bit * half = (omega arith) ∙ ap (λ b. low + b * half) (sym is) in (
      subst (λ n. ones (w % 2 ^ n) < k) up before,
      subst (λ n. k ≤ ones (w % 2 ^ (n + half))) up (ltb-false _ _ fewer),
      omega (arith, up),
    )

pub ones_none : (n : ℕ) → ones (n % 2 ^ 0) ≡ 0
ones_none n = ap ones (mod-one n) ∙ ones_bit 0 (omega arith)

-- a word's lowest k bits by a mask
pub lowest_bits : (n k : ℕ) → k < 64 → bit_and n (1 * 2 ^ k % 2 ^ 64 - 1) ≡ n % 2 ^ k
lowest_bits n k lt = ap (λ m. bit_and n (m - 1)) (one_shl k 64 lt) ∙ and_mask n k

-- ---- the 1-bits of packed bytes

-- the number of 1-bits before bit i
abbrev ones_below : List ℕ → ℕ → ℕ
ones_below bytes i = count_by (λ b. b) (map (bit bytes) (range_with_len 0 i))

ones_before_is : (bytes : List ℕ) (n i : ℕ) → i ≤ n → ones_before (bits bytes n) i ≡ ones_below bytes i
unfolding ones_before bits
ones_before_is bytes n i h = ap (λ xs. count_by (λ b. b) xs) (take-map-range_with_len (bit bytes) 0 n i h)

one_more : (bytes : List ℕ) (i : ℕ) → ones_below bytes (i + 1) ≡ ones_below bytes i + digit (bit bytes i)
one_more bytes i = sum_by-map-range_with_len_more (λ b. cond b 1 0) (bit bytes) 0 i i (omega arith)

bit_after : (bytes : List ℕ) (a k : ℕ) → nat_eq (little bytes / 2 ^ a / 2 ^ k % 2) 1 ≡ bit bytes (a + k)
unfolding bit
bit_after bytes a k = ap (λ n. nat_eq (n % 2) 1) (shr-shr (little bytes) a k)

ones_between : (bytes : List ℕ) (a k : ℕ) → ones_below bytes a + ones (little bytes / 2 ^ a % 2 ^ k)
    ≡ ones_below bytes (a + k)
ones_between bytes a zero =
    ap (λ n. ones_below bytes a + n) (ones_none (little bytes / 2 ^ a)) ∙ add-zero (ones_below bytes a)
    ∙ ap (ones_below bytes) (sym (add-zero a))
ones_between bytes a (suc k) =
    let next : suc k ≡ k + 1 = omega arith in
    let end : a + k + 1 ≡ a + suc k = omega arith in
    let more : ones_below bytes a + ones (little bytes / 2 ^ a % 2 ^ (k + 1))
    ≡ ones_below bytes (a + k) + digit (bit bytes (a + k)) =
    omega (arith, ones_between bytes a k, ones_more (little bytes / 2 ^ a) k, ap digit (bit_after bytes a k)) in
    ap (λ n. ones_below bytes a + ones (little bytes / 2 ^ a % 2 ^ n)) next ∙ more ∙ sym (one_more bytes (a + k))
    ∙ ap (ones_below bytes) end

-- the 1-bits from bit a up to bit b are those of the number that these bits are
pub ones_in_range : (bytes : List ℕ) (n a k b : ℕ) → b ≤ n → a + k ≡ b
    → ones_before (bits bytes n) a + ones (little bytes / 2 ^ a % 2 ^ k) ≡ ones_before (bits bytes n) b
ones_in_range bytes n a k b h e =
    ap (λ x. x + ones (little bytes / 2 ^ a % 2 ^ k)) (ones_before_is bytes n a (omega arith))
    ∙ ones_between bytes a k ∙ ap (ones_below bytes) e ∙ sym (ones_before_is bytes n b h)

-- the same for the lowest k of w bits that were read
pub ones_in_lowest : (bytes : List ℕ) (n a w k : ℕ) → k ≤ w → a + k ≤ n
    → ones_before (bits bytes n) a + ones (little bytes / 2 ^ a % 2 ^ w % 2 ^ k) ≡ ones_before (bits bytes n) (a + k)
ones_in_lowest bytes n a w k le h =
    ap (λ m. ones_before (bits bytes n) a + ones m) (mod_less (little bytes / 2 ^ a) w k le)
    ∙ ones_in_range bytes n a k (a + k) h refl
