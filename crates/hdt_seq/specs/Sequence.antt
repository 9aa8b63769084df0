-- What log sequences and bitmaps share (rdfhdt.org, "HDT binary format", Log sequence, Bitmap): a preamble of a type
-- byte and numbers, its CRC-8, packed bytes, and their CRC-32C.
use Rattle.std.specs.Prelude.{◌≡◌, ◌<◌, ℕ, ◌+◌, ◌*◌, ◌/◌, ◌^◌, ◌==◌, List, ◌∷◌, ◌++◌, length, slice_index, slice_range}
use Rattle.std.specs.Prelude.{Result, Ok}
use Rattle.byteorder.specs.Endian.{little_number, little_bytes}
use Rattle.hdt_wire.specs.declared.fault.Fault.{Fault}
use Rattle.hdt_wire.specs.declared.fault.Reason.TheVariants.{Check8, Check32}
use Rattle.hdt_wire.specs.Crc.{crc8, crc32}
use Rattle.hdt_wire.specs.Checks.{◌>>=◌, demand, bytes_at}
use Rattle.hdt_wire.specs.VByte.{vbyte}
use Rattle.hdt_seq.specs.PackedBits.{bytes_for}

-- the bytes of a sequence: its preamble with its CRC-8, and its packed bytes with their CRC-32C, little-endian
abbrev pub with_crcs : List ℕ → List ℕ → List ℕ
with_crcs preamble packed = preamble ++ crc8 preamble ∷ (packed ++ little_bytes 4 (crc32 packed))

-- The text encodes the entries: the bytes `before_count` (the type, and the width of a log sequence), the number of
-- entries, and some packed bytes, of which `unpack` makes these entries. Padding bits may be anything.
pub record EncodesSequence {X : Type 0} (unpack : List ℕ → ℕ → List X) (width : ℕ) (before_count text : List ℕ)
    (xs : List X) : Type 0 where
  pub packed : List ℕ
  pub count_fits : length xs < 2 ^ 64
  pub size : length packed ≡ bytes_for (width * length xs)
  pub holds : unpack packed (length xs) ≡ xs
  pub whole : text ≡ with_crcs (before_count ++ vbyte (length xs)) packed

-- the byte offsets of the number of entries and of the packed bytes in the input, and the width of an entry in bits
pub record SequenceShape : Type 0 where
  pub count : ℕ
  pub packed : ℕ
  pub width : ℕ

-- the byte offset of entry i: that of the byte with its first bit
abbrev pub entry_offset : SequenceShape → ℕ → ℕ
entry_offset offsets i = offsets.packed + offsets.width * i / 8

-- a sequence: its entries or bits, its offsets, and the byte offset after it
pub record Sequence (X : Type 0) : Type 0 where
  pub items : List X
  pub offsets : SequenceShape
  pub end : ℕ

-- ---- the checks

-- the byte at an offset, and the offset after it
unfoldable pub byte_at : List ℕ → ℕ → Result (ℕ × ℕ) Fault
byte_at bytes at = do
  one ← bytes_at 1 bytes at
  Ok (slice_index one.0 0, one.1)

-- the CRC-8 of the bytes from the offset `from` up to `at` is there; the offset after it
unfoldable pub crc8_at : List ℕ → ℕ → ℕ → Result ℕ Fault
crc8_at bytes from at = do
  code ← byte_at bytes at
  _ ← demand (code.0 == crc8 (slice_range bytes from at)) at Check8
  Ok code.1

-- the bytes that hold so many bits, with their CRC-32C after them, and the offset after that
unfoldable pub packed_at : ℕ → List ℕ → ℕ → Result (List ℕ × ℕ) Fault
packed_at bits bytes at = do
  packed ← bytes_at (bytes_for bits) bytes at
  code ← bytes_at 4 bytes packed.1
  _ ← demand (little_number 4 code.0 == crc32 packed.0) packed.1 Check32
  Ok (packed.0, code.1)
