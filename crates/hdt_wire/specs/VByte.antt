-- Variable-length numbers (rdfhdt.org, "HDT binary format", VByte): in base 128, least significant digit first, one
-- digit a byte. Only the last byte has its top bit set.
use Rattle.std.specs.Prelude.{◌≡◌, ℕ, zero, suc, ◌/◌, ◌+◌, ◌*◌, ◌%◌, ◌^◌, ◌<◌, ◌==◌, ◌||◌, not, List, [], ◌∷◌, length}
use Rattle.std.specs.Prelude.{take, drop, Result, Ok, nat_lt, nat_le, slice_index, if◌then◌else◌}
use Rattle.std.specs.List.{position_or_len}
use Rattle.hdt_wire.specs.declared.fault.Fault.{Fault}
use Rattle.hdt_wire.specs.declared.fault.Reason.TheVariants.{Truncated, OverlongNumber, NumberTooLarge}
use Rattle.hdt_wire.specs.Checks.{◌>>=◌, EncodedAt, demand}

-- The bytes encode the number. Either the only byte is the number plus 128, or the first byte is the least significant
-- digit and the others encode the rest, which is not 0. So each number has one encoding.
abbrev pub VByte : List ℕ → ℕ → Type 0
VByte [] v = ⊥
VByte (b ∷ []) v = (v < 128) × (b ≡ v + 128)
VByte (b ∷ c ∷ bs) v = (b < 128) × (high : ℕ) × (0 < high) × (v ≡ b + 128 * high) × VByte (c ∷ bs) high

-- the encoding, with at most k bytes before the last one
unfoldable pub vbyte_up_to : ℕ → ℕ → List ℕ
vbyte_up_to zero v = (v + 128) ∷ []
vbyte_up_to (suc k) v = if nat_lt v 128 then (v + 128) ∷ [] else (v % 128) ∷ vbyte_up_to k (v / 128)

-- the encoding of a number below 2 ^ 64, as a function: exactly these bytes encode it (laws `vbyte_encodes` and
-- `vbyte_unique`)
unfoldable pub vbyte : ℕ → List ℕ
vbyte v = vbyte_up_to 9 v

-- ---- reading

-- the number with these digits, with their top bits ignored
abbrev pub base128_value : List ℕ → ℕ
base128_value [] = 0
base128_value (b ∷ bs) = b % 128 + 128 * base128_value bs

-- the bytes at an offset, at most ten
abbrev pub window : List ℕ → ℕ → List ℕ
window bytes at = take 10 (drop at bytes)

-- the index of the first byte with its top bit set, or the length if there is none
abbrev pub last_digit_index : List ℕ → ℕ
last_digit_index seen = position_or_len (λ b. nat_le 128 b) seen

-- the checks of a number in turn: the value and the offset after it, or the first error
unfoldable pub vbyte_at : List ℕ → ℕ → Result (ℕ × ℕ) Fault
vbyte_at bytes at =
    let seen = window bytes at in
    let last = last_digit_index seen in
    let value = base128_value (take (last + 1) seen) in
    do
      _ ← demand (nat_lt last (length seen)) at (if length seen == 10 then NumberTooLarge else Truncated)
      _ ← demand (nat_lt value (2 ^ 64)) at NumberTooLarge
      _ ← demand (last == 0 || not (slice_index seen last == 128)) at OverlongNumber
      Ok (value, at + last + 1)

-- a number below 2 ^ 64 is encoded at the offset
pub record IsVByteAt (v : ℕ) (bytes : List ℕ) (at end : ℕ) : Type 0 where
  pub spelled : EncodedAt VByte bytes at v end
  pub below : v < 2 ^ 64
