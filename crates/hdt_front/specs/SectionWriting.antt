-- The bytes that are written for a section.
use Rattle.std.proofs.Common.{ℕ, ◌<◌, ◌^◌, List, ◌∷◌, ◌++◌, length}
use Rattle.byteorder.specs.Endian.{little_bytes}
use Rattle.hdt_wire.specs.Crc.{crc8, crc32}
use Rattle.hdt_wire.specs.VByte.{vbyte}
use Rattle.hdt_seq.specs.Numbers.{numbers_encoding}
use Rattle.hdt_seq.specs.PackedBits.{EachFits}
use Rattle.hdt_front.specs.Section.{HasBlockOffsets, AreFrontCoded, AreSectionStrings}

-- The preamble: the type byte, the number of strings, the size of the front-coded bytes, and the block size.
abbrev pub section_preamble : ℕ → ℕ → ℕ → List ℕ
section_preamble count size block_size = 2 ∷ (vbyte count ++ (vbyte size ++ vbyte block_size))

-- The bytes of a section with these block offsets and front-coded bytes. All but the front coding is canonical.
abbrev pub section_encoding : ℕ → ℕ → List ℕ → List ℕ → List ℕ
section_encoding count block_size starts packed =
    let preamble = section_preamble count (length packed) block_size in
    preamble ++ crc8 preamble ∷ (numbers_encoding starts ++ (packed ++ little_bytes 4 (crc32 packed)))

-- A section with these parts can be written.
pub record CanBeWritten (strings : List (List ℕ)) (block_size : ℕ) (starts packed : List ℕ) : Type 0 where
  pub few : length strings < 2 ^ 64
  pub short : length packed < 2 ^ 64
  pub block : block_size < 2 ^ 64
  pub few_starts : length starts < 2 ^ 64
  pub starts_fit : EachFits 64 starts
  pub some : 0 < length strings → 0 < block_size
  pub started : HasBlockOffsets (length strings) block_size starts
  pub front_coded : AreFrontCoded block_size strings packed starts
  pub strings_are : AreSectionStrings strings
