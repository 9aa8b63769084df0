-- The view of a section in contracts.
use Rattle.std.specs.Prelude.{ℕ, List, [], ◌-◌, ◌+◌, ◌/◌}
use Rattle.std.specs.Prelude.{get_or, take, drop}
use Rattle.hdt_seq.specs.Numbers.{numbers_of, numbers_offsets}
use Rattle.hdt_front.specs.Decoding.{block_count, decoded_strings}
use Rattle.hdt_front.specs.Section.{SectionParts}
use Rattle.hdt_front.specs.declared.section.Section.{Section}

-- The strings of a section.
unfoldable pub strings_of : Section → List (List ℕ)
strings_of s = decoded_strings s.packed.block_size s.packed.count 0 [] s.packed.bytes.now

-- All parts of a section.
unfoldable pub section_of : Section → SectionParts
section_of s = record {
  strings = strings_of s;
  block_size = s.packed.block_size;
  offset_bits = (numbers_offsets s.packed.block_offsets).width;
  packed = s.packed.bytes.now;
  packed_offset = s.packed.packed_at;
  end = s.end;
}

-- The number of strings of each block but the last, which may have fewer.
abbrev pub block_size : Section → ℕ
block_size s = s.packed.block_size

-- The number of blocks; 0 if there are no strings.
unfoldable pub blocks_of : Section → ℕ
blocks_of s = block_count s.packed.count s.packed.block_size

-- The offset of block q in the front-coded bytes.
abbrev pub block_start : Section → ℕ → ℕ
block_start s q = get_or (numbers_of s.packed.block_offsets) q 0

-- The front-coded bytes of the block of string i, from 0.
unfoldable pub packed_block : Section → ℕ → List ℕ
packed_block s i = take (block_start s (i / s.packed.block_size + 1) - block_start s (i / s.packed.block_size))
    (drop (block_start s (i / s.packed.block_size)) s.packed.bytes.now)
