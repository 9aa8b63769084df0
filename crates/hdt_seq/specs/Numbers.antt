-- Log sequences (rdfhdt.org, "HDT binary format", Log sequence): the type byte 1, a width of 0 to 64 bits, the number
-- of entries, and the entries packed in that width.
use Rattle.std.specs.Prelude.{◌≤◌, ◌==◌, ℕ, ◌+◌, ◌*◌, List, [], ◌∷◌, length, nat_le, Result, Ok}
use Rattle.hdt_wire.specs.declared.fault.Fault.{Fault}
use Rattle.hdt_wire.specs.declared.fault.Reason.TheVariants.{SequenceKind, Width}
use Rattle.hdt_wire.specs.Checks.{◌>>=◌, demand}
use Rattle.hdt_wire.specs.VByte.{vbyte, vbyte_at}
use Rattle.hdt_seq.specs.declared.numbers.Numbers.{Numbers}
use Rattle.hdt_seq.specs.PackedBits.{entries, packed}
use Rattle.hdt_seq.specs.Width.{width_of}
use Rattle.hdt_seq.specs.Sequence.{SequenceShape, Sequence, EncodesSequence, with_crcs, byte_at, crc8_at, packed_at}

-- the text encodes the numbers, in some width
abbrev pub EncodesNumbers : List ℕ → List ℕ → Type 0
EncodesNumbers text xs = (width : ℕ) × (width ≤ 64)
    × EncodesSequence (λ bytes n. entries bytes width n) width (1 ∷ width ∷ []) text xs

-- the entries of a log sequence
unfoldable pub numbers_of : Numbers → List ℕ
numbers_of s = entries s.packed.now s.width s.count

-- the offsets of a log sequence in the input
unfoldable pub numbers_offsets : Numbers → SequenceShape
numbers_offsets s = record { count = s.count_at; packed = s.packed_at; width = s.width }

-- what a reader returns: the sequence, and the offset after it
abbrev pub numbers_view : Numbers × ℕ → Sequence ℕ
numbers_view r = record { items = numbers_of r.0; offsets = numbers_offsets r.0; end = r.1 }

-- the offsets of a log sequence of n entries that begins at an offset
abbrev pub expected_numbers_offsets : ℕ → ℕ → ℕ → SequenceShape
expected_numbers_offsets at width n = record { count = at + 2; packed = at + 3 + length (vbyte n); width = width }

-- the checks of a log sequence in turn: the sequence, or the first error
unfoldable pub numbers_at : List ℕ → ℕ → Result (Sequence ℕ) Fault
numbers_at bytes at = do
  kind ← byte_at bytes at
  _ ← demand (kind.0 == 1) at SequenceKind
  width ← byte_at bytes kind.1
  _ ← demand (nat_le width.0 64) kind.1 Width
  count ← vbyte_at bytes width.1
  packed_start ← crc8_at bytes at count.1
  packed ← packed_at (width.0 * count.0) bytes packed_start
  Ok (record {
    items = entries packed.0 width.0 count.0;
    offsets =
        record { count = width.1; packed = packed_start; width = width.0 };
    end = packed.1;
  })

-- ---- writing

-- the canonical encoding of the entries: the least width that fits all, and all padding bits 0
unfoldable pub numbers_encoding : List ℕ → List ℕ
numbers_encoding xs = with_crcs (1 ∷ width_of xs ∷ vbyte (length xs)) (packed (width_of xs) xs)
