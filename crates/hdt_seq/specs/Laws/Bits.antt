-- Laws of the bits of a bitmap, for other crates.
use Rattle.std.proofs.Common.{◌≡◌, ℕ, ◌/◌, ◌^◌, ◌<◌, false, Some, length, get_or, ap, ◌∙◌, arith}
use Rattle.std.specs.Prelude.{slice_get}
use Rattle.std.proofs.lemmas.Option.{slice_get-get_or}
use Rattle.hdt_seq.specs.declared.bits.Bits.{Bits}
use Rattle.hdt_seq.specs.PackedBits.{bit}
use Rattle.hdt_seq.specs.Laws.LittleEndian.{length-bits, get_or-bits}
use Rattle.hdt_seq.specs.Bits.{bits_of}

-- the count is the number of bits, which is below 2 ^ 64
pub bits_len : (s : Bits) → length (bits_of s) ≡ s.count
unfolding bits_of
bits_len s = length-bits s.packed.now s.count

pub bits_below : (s : Bits) → length (bits_of s) < 2 ^ 64
bits_below s = omega (arith, bits_len s, s.count_fits)

bit_is : (s : Bits) (i : ℕ) → i < length (bits_of s) → get_or (bits_of s) i false ≡ bit s.packed.now i
unfolding bits_of
bit_is s i lt = get_or-bits s.packed.now s.count i false (omega (arith, length-bits s.packed.now s.count, lt))

-- bit i of the list is bit i of the packed bytes
pub bits_get : (s : Bits) (i : ℕ) → i < length (bits_of s) → slice_get (bits_of s) i ≡ Some (bit s.packed.now i)
bits_get s i lt = slice_get-get_or (bits_of s) i false lt ∙ ap Some (bit_is s i lt)

-- the byte with bit i is within the packed bytes
pub bit_within : (s : Bits) (i : ℕ) → i < length (bits_of s) → i / 8 < length s.packed.now
bit_within s i lt = omega (arith, bits_len s, lt, s.packed_fits)
