-- Writing a VByte number, digit by digit.
use Rattle.std.proofs.Common.{◌≡◌, ℕ, suc, ◌+◌, ◌*◌, ◌-◌, ◌/◌, ◌%◌, ◌^◌, ◌<◌, ◌≤◌, List, ◌∷◌, ◌++◌, length, set, take}
use Rattle.std.proofs.Common.{refl, sym, ap, ◌∙◌, arith, inl, inr, append_assoc}
use Rattle.std.proofs.Math.Nat.{pow-suc}
use Rattle.std.proofs.lemmas.Bool.{cases_lt}
use Rattle.std.proofs.lemmas.List.{take_more_set}
use Rattle.hdt_wire.specs.VByte.{vbyte_up_to, vbyte}
use Rattle.hdt_wire.specs.Laws.VByte.{digits_more, digits_last}

-- the invariant of the loop: after len bytes, the rest fits in the remaining ones
pub record RestFits (len rest : ℕ) : Type 0 where
  pub short : len ≤ 9
  pub below : rest < 128 ^ (10 - len)

pub RestFits-next : (len rest : ℕ) → RestFits len rest → 128 ≤ rest → RestFits (len + 1) (rest / 128)
RestFits-next len rest h high =
    let left : 10 - len ≡ suc (9 - len) = omega (arith, h.short) in
    let same : 10 - (len + 1) ≡ 9 - len = omega arith in
    let wide : rest < 128 ^ (9 - len) * 128 = rw (← pow-suc 128 (9 - len), ← left) h.below in
    elim (cases_lt len 9) [
      | inl lt ↦ record { short = omega arith; below = rw same (omega (arith, wide)) }
      | inr le ↦
          let none : 9 - len ≡ 0 = omega arith in
          let tiny : rest < 128 ^ 0 * 128 = rw none at wide in
          absurd (omega (arith, tiny, high))
    ]

-- one more digit
pub writes : (text : List ℕ) (len rest v : ℕ) → RestFits len rest → length text ≡ 10 → 128 ≤ rest
    → take len text ++ vbyte_up_to (9 - len) rest ≡ vbyte v
    → take (len + 1) (set text len (rest % 128)) ++ vbyte_up_to (9 - (len + 1)) (rest / 128) ≡ vbyte v
writes text len rest v h size high so_far =
    let more = RestFits-next len rest h high in
    let left : 9 - len ≡ suc (9 - (len + 1)) = omega (arith, more.short) in
    let one : take len text ++ vbyte_up_to (9 - len) rest
    ≡ take len text ++ (rest % 128 ∷ vbyte_up_to (9 - (len + 1)) (rest / 128)) =
    rw left (ap (λ (t : List ℕ). take len text ++ t) (digits_more (9 - (len + 1)) rest high)) in
    rw (take_more_set text len (rest % 128) (omega (arith, h.short, size)), append_assoc) (sym one ∙ so_far)

-- the last digit
pub ends : (text : List ℕ) (len rest v : ℕ) → RestFits len rest → length text ≡ 10 → rest < 128
    → take len text ++ vbyte_up_to (9 - len) rest ≡ vbyte v
    → take (len + 1) (set text len (rest + 128)) ≡ vbyte v
ends text len rest v h size low so_far =
    rw (take_more_set text len (rest + 128) (omega (arith, h.short, size)), ← digits_last (9 - len) rest low) so_far

-- one more digit, for the length
pub counts : (len rest v : ℕ) → RestFits (len - 1) rest → 0 < len → 128 ≤ rest
    → length (vbyte_up_to (10 - len) rest) + len ≡ length (vbyte v) + 1
    → RestFits (len + 1 - 1) (rest / 128)
    × (length (vbyte_up_to (10 - (len + 1)) (rest / 128)) + (len + 1) ≡ length (vbyte v) + 1)
counts len rest v h some high so_far =
    let more = RestFits-next (len - 1) rest h high in
    let same : len - 1 + 1 ≡ len + 1 - 1 = omega arith in
    let left : 10 - len ≡ suc (10 - (len + 1)) = omega (arith, more.short) in
    let one : length (vbyte_up_to (10 - len) rest) ≡ suc (length (vbyte_up_to (10 - (len + 1)) (rest / 128))) =
    rw left (ap length (digits_more (10 - (len + 1)) rest high)) in
    (rw same at more, omega (arith, one, so_far))

pub count_ends : (len rest v : ℕ) → rest < 128 → length (vbyte_up_to (10 - len) rest) + len ≡ length (vbyte v) + 1
    → len ≡ length (vbyte v)
count_ends len rest v low so_far =
    let one : length (vbyte_up_to (10 - len) rest) ≡ 1 = ap length (digits_last (10 - len) rest low) in
    omega (arith, one, so_far)

pub starts : (v : ℕ) → v < 2 ^ 64 → RestFits 0 v × (vbyte_up_to 9 v ≡ vbyte v)
unfolding vbyte
starts v lt = (record { short = omega arith; below = omega (arith, lt) }, refl)
