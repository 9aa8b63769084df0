-- Bitmaps (rdfhdt.org, "HDT binary format", Bitmap): the type byte 1, the number of bits, which is not 0, and the bits,
-- eight a byte.
use Rattle.std.specs.Prelude.{◌<◌, ◌==◌, ℕ, ◌+◌, List, [], ◌∷◌, Bool, length, nat_lt, Result, Ok}
use Rattle.hdt_wire.specs.declared.fault.Fault.{Fault}
use Rattle.hdt_wire.specs.declared.fault.Reason.TheVariants.{BitsKind, NoTriples}
use Rattle.hdt_wire.specs.Checks.{◌>>=◌, demand}
use Rattle.hdt_wire.specs.VByte.{vbyte, vbyte_at}
use Rattle.hdt_seq.specs.declared.bits.Bits.{Bits}
use Rattle.hdt_seq.specs.PackedBits.{bits, packed_bits}
use Rattle.hdt_seq.specs.Sequence.{SequenceShape, Sequence, EncodesSequence, with_crcs, byte_at, crc8_at, packed_at}

-- the text encodes the bits, of which there is at least one
abbrev pub EncodesBits : List ℕ → List Bool → Type 0
EncodesBits text xs = (0 < length xs) × EncodesSequence bits 1 (1 ∷ []) text xs

-- the bits of a bitmap
unfoldable pub bits_of : Bits → List Bool
bits_of s = bits s.packed.now s.count

-- the offsets of a bitmap in the input
unfoldable pub bits_offsets : Bits → SequenceShape
bits_offsets s = record { count = s.count_at; packed = s.packed_at; width = 1 }

-- what a reader returns: the bitmap, and the offset after it
abbrev pub bits_view : Bits × ℕ → Sequence Bool
bits_view r = record { items = bits_of r.0; offsets = bits_offsets r.0; end = r.1 }

-- the offsets of a bitmap of n bits that begins at an offset
abbrev pub expected_bits_offsets : ℕ → ℕ → SequenceShape
expected_bits_offsets at n = record { count = at + 1; packed = at + 2 + length (vbyte n); width = 1 }

-- the checks of a bitmap in turn: the bitmap, or the first error
unfoldable pub bits_at : List ℕ → ℕ → Result (Sequence Bool) Fault
bits_at bytes at = do
  kind ← byte_at bytes at
  _ ← demand (kind.0 == 1) at BitsKind
  count ← vbyte_at bytes kind.1
  packed_start ← crc8_at bytes at count.1
  _ ← demand (nat_lt 0 count.0) kind.1 NoTriples
  packed ← packed_at count.0 bytes packed_start
  Ok (record {
    items = bits packed.0 count.0;
    offsets = record { count = kind.1; packed = packed_start; width = 1 };
    end =
        packed.1;
  })

-- ---- writing

-- the canonical encoding of the bits: all padding bits are 0
unfoldable pub bits_encoding : List Bool → List ℕ
bits_encoding xs = with_crcs (1 ∷ vbyte (length xs)) (packed_bits xs)
