-- Log sequences and bitmaps at an offset.
use Rattle.std.specs.Prelude.{◌≡◌, ℕ, ◌+◌, List, Bool, length, slice_index}
use Rattle.hdt_wire.specs.Checks.{EncodedAt}
use Rattle.hdt_seq.specs.Sequence.{Sequence}
use Rattle.hdt_seq.specs.Numbers.{EncodesNumbers, expected_numbers_offsets}
use Rattle.hdt_seq.specs.Bits.{EncodesBits, expected_bits_offsets}

-- The log sequence is encoded at the offset, with the offsets that the format gives its parts. The byte after the type
-- byte is the width.
pub record IsLogSequenceAt (s : Sequence ℕ) (bytes : List ℕ) (at : ℕ) : Type 0 where
  pub spelled : EncodedAt EncodesNumbers bytes at s.items s.end
  pub offsets : s.offsets ≡ expected_numbers_offsets at (slice_index bytes (at + 1)) (length s.items)

-- the bitmap is encoded at the offset, with the offsets that the format gives its parts
pub record IsBitmapAt (s : Sequence Bool) (bytes : List ℕ) (at : ℕ) : Type 0 where
  pub spelled : EncodedAt EncodesBits bytes at s.items s.end
  pub offsets : s.offsets ≡ expected_bits_offsets at (length s.items)
