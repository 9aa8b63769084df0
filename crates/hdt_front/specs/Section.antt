-- Dictionary sections (rdfhdt.org, "HDT binary format", Plain Front Coding): the type byte 2; as VBytes the number of
-- strings, the size of the front-coded bytes, and the block size; the CRC-8 of all these, the type byte too; the block
-- offsets as a log sequence; the front-coded bytes with their CRC-32C.
use Rattle.std.specs.Prelude.{◌≡◌, ℕ, zero, suc, ◌+◌, ◌-◌, ◌*◌, ◌/◌, ◌<◌, ◌==◌, ◌||◌, ◌⊎◌, not, Bool, nat_lt, nat_le}
use Rattle.std.specs.Prelude.{List, [], ◌∷◌, ◌++◌, length, slice_index, slice_index_or, slice_range, take, true, Result}
use Rattle.std.specs.Prelude.{Ok}
use Rattle.std.specs.List.{concat}
use Rattle.std.specs.Str.{IsUtf8}
use Rattle.byteorder.specs.Endian.{little_bytes}
use Rattle.hdt_wire.specs.declared.fault.Fault.{Fault}
use Rattle.hdt_wire.specs.declared.fault.Reason.TheVariants.{SectionKind, BlockSize, PackedLength, BlockCount}
use Rattle.hdt_wire.specs.declared.fault.Reason.TheVariants.{BlockPlace}
use Rattle.hdt_wire.specs.Crc.{crc8, crc32}
use Rattle.hdt_wire.specs.Checks.{◌>>=◌, demand, HasSlice}
use Rattle.hdt_wire.specs.Control.{HasNoZero}
use Rattle.hdt_wire.specs.VByte.{vbyte_at}
use Rattle.hdt_seq.specs.Sequence.{Sequence, entry_offset, byte_at, crc8_at, packed_at}
use Rattle.hdt_seq.specs.Numbers.{numbers_at}
use Rattle.hdt_wire.specs.VByte.{IsVByteAt}
use Rattle.hdt_seq.specs.ExactSequences.{IsLogSequenceAt}
use Rattle.hdt_front.specs.Decoding.{is_block_start, block_count, decoded_strings}
use Rattle.hdt_front.specs.EntryFacts.{bytes_from_entry}
use Rattle.hdt_front.specs.Order.{IsAscending}
use Rattle.hdt_front.specs.FrontCoding.{IsEntry}
use Rattle.hdt_front.specs.StringChecks.{BlockLayout, strings_check}

-- A section: its strings, the block size, the width in bits of a block offset, the front-coded bytes, their offset in
-- the input, and the offset after the section.
pub record SectionParts : Type 0 where
  pub strings : List (List ℕ)
  pub block_size : ℕ
  pub offset_bits : ℕ
  pub packed : List ℕ
  pub packed_offset : ℕ
  pub end : ℕ

-- The string before string i, where strings count from 0. Before the first one it is empty.
abbrev pub before : List (List ℕ) → ℕ → List ℕ
before strings i = slice_index_or ([] ∷ strings) i []

-- The bytes `packed` are a front coding of the strings, with one string entry for each. The block offsets `starts` are
-- those of the first string entries of blocks, and then the end.
pub record AreFrontCoded (block_size : ℕ) (strings : List (List ℕ)) (packed starts : List ℕ) : Type 0 where
  pub entries : List (List ℕ)
  pub joined : packed ≡ concat entries
  pub one_each : length entries ≡ length strings
  pub each : (i : ℕ) → i < length strings
      → IsEntry (is_block_start block_size i) (before strings i) (slice_index_or strings i [])
      (slice_index_or entries i [])
  pub heads : (i : ℕ) → i < length strings → is_block_start block_size i ≡ true
      → slice_index starts (i / block_size) ≡ length (concat (take i entries))
  pub last : 0 < length strings → slice_index starts (block_count (length strings) block_size) ≡ length packed

-- The strings can form a section: they are UTF-8 without zero bytes, and ascend by unsigned bytes.
pub record AreSectionStrings (strings : List (List ℕ)) : Type 0 where
  pub utf8 : (i : ℕ) → i < length strings → IsUtf8 (slice_index_or strings i [])
  pub no_zero : (i : ℕ) → i < length strings → HasNoZero (slice_index_or strings i [])
  pub ascend : IsAscending strings

-- There are as many block offsets as n strings need: one for each block, and the end. Without strings there is none, or
-- the single block offset 0, which is the end.
abbrev pub HasBlockOffsets : ℕ → ℕ → List ℕ → Type 0
HasBlockOffsets zero block_size starts = (starts ≡ []) ⊎ (starts ≡ 0 ∷ [])
HasBlockOffsets (suc n) block_size starts = length starts ≡ block_count (suc n) block_size + 1

-- The section is encoded at the offset.
pub record IsSectionAt (s : SectionParts) (bytes : List ℕ) (at : ℕ) : Type 0 where
  -- the byte offsets of the three parts of the preamble after the number of strings, and of the block offsets
  pub size_offset : ℕ
  pub block_size_offset : ℕ
  pub crc_offset : ℕ
  pub starts_offset : ℕ
  pub starts : Sequence ℕ
  -- the preamble
  pub kind : HasSlice bytes at (2 ∷ []) (at + 1)
  pub count : IsVByteAt (length s.strings) bytes (at + 1) size_offset
  pub size : IsVByteAt (length s.packed) bytes size_offset block_size_offset
  pub block : IsVByteAt s.block_size bytes block_size_offset crc_offset
  pub code : HasSlice bytes crc_offset (crc8 (slice_range bytes at crc_offset) ∷ []) starts_offset
  pub some : 0 < length s.strings → 0 < s.block_size
  -- the block offsets, and the front-coded bytes with their CRC-32C
  pub block_offsets_at : IsLogSequenceAt starts bytes starts_offset
  pub started : HasBlockOffsets (length s.strings) s.block_size starts.items
  pub width : s.offset_bits ≡ starts.offsets.width
  pub packed_begins : s.packed_offset ≡ starts.end
  pub packed : HasSlice bytes s.packed_offset (s.packed ++ little_bytes 4 (crc32 s.packed)) s.end
  -- the strings
  pub front_coded : AreFrontCoded s.block_size s.strings s.packed starts.items
  pub strings : AreSectionStrings s.strings

-- The offset in the input of the entry of string i, from 0.
unfoldable pub string_offset : SectionParts → ℕ → ℕ
string_offset s i = s.packed_offset + (length s.packed - length (bytes_from_entry s.block_size i s.packed))

-- ---- the checks

-- Whether `count` block offsets are valid for this number of strings and block size.
abbrev pub is_start_count : ℕ → ℕ → ℕ → Bool
is_start_count zero block_size count = nat_le count 1
is_start_count (suc n) block_size count = count == block_count (suc n) block_size + 1

abbrev pub block_layout_with : Sequence ℕ → ℕ → ℕ → BlockLayout
block_layout_with starts block_size size =
    record {
      block_size = block_size;
      packed_at = starts.end;
      size = size;
      block_offsets = starts.items;
      block_offsets_at = starts.offsets;
    }

-- The parts of a section before its strings are decoded: their number, the block size, the block offsets, the
-- front-coded bytes, and the offset after the section.
pub record PackedParts : Type 0 where
  pub count : ℕ
  pub block_size : ℕ
  pub starts : Sequence ℕ
  pub packed : List ℕ
  pub end : ℕ

-- The preamble of a section: the number of strings, the size of the front-coded bytes, the block size, and the offset
-- of the block offsets.
pub record SectionPreamble : Type 0 where
  pub count : ℕ
  pub size : ℕ
  pub block_size : ℕ
  pub starts_offset : ℕ

-- The checks of the preamble, in order.
unfoldable pub preamble_at : List ℕ → ℕ → Result SectionPreamble Fault
preamble_at bytes at = do
  kind ← byte_at bytes at
  _ ← demand (kind.0 == 2) at SectionKind
  count ← vbyte_at bytes kind.1
  size ← vbyte_at bytes count.1
  block ← vbyte_at bytes size.1
  starts_offset ← crc8_at bytes at block.1
  _ ← demand (count.0 == 0 || nat_lt 0 block.0) size.1 BlockSize
  _ ← demand (not (count.0 == 0) || size.0 == 0) count.1 PackedLength
  Ok (record { count = count.0; size = size.0; block_size = block.0; starts_offset = starts_offset })

-- The checks before those of the strings, in order.
unfoldable pub packed_parts_at : List ℕ → ℕ → Result PackedParts Fault
packed_parts_at bytes at = do
  preamble ← preamble_at bytes at
  starts ← numbers_at bytes preamble.starts_offset
  _ ← demand (is_start_count preamble.count preamble.block_size (length starts.items)) starts.offsets.count BlockCount
  _ ← demand (not (preamble.count == 0) || slice_index starts.items 0 == 0) (entry_offset starts.offsets 0) BlockPlace
  packed ← packed_at (8 * preamble.size) bytes starts.end
  Ok (record {
    count = preamble.count;
    block_size = preamble.block_size;
    starts = starts;
    packed = packed.0;
    end = packed.1;
  })

-- The section that the front-coded bytes decode to.
abbrev pub decoded_section : PackedParts → SectionParts
decoded_section p = record {
  strings = decoded_strings p.block_size p.count 0 [] p.packed;
  block_size = p.block_size;
  offset_bits = p.starts.offsets.width;
  packed = p.packed;
  packed_offset = p.starts.end;
  end = p.end;
}

-- The checks of a section, in order: the section, or the first error.
unfoldable pub section_at : List ℕ → ℕ → Result SectionParts Fault
section_at bytes at = do
  parts ← packed_parts_at bytes at
  _ ← strings_check (block_layout_with parts.starts parts.block_size (length parts.packed)) parts.count 0 []
      parts.packed
  Ok (decoded_section parts)
