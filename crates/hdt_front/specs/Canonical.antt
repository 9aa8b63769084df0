-- The canonical bytes of a section, which writers produce. Each string entry shares the longest common prefix with the
-- previous string. The block offsets are those of the first entries of blocks, and then the end.
use Rattle.std.specs.Prelude.{ℕ, ◌+◌, Bool, List, [], ◌∷◌, ◌++◌, length, map, drop, cond, nat_eq}
use Rattle.std.specs.List.{concat, common_prefix_len}
use Rattle.std.specs.Borrow.{Bor}
use Rattle.std.specs.declared.vec.Vec.{Vec}
use Rattle.hdt_wire.specs.VByte.{vbyte}
use Rattle.hdt_seq.specs.Numbers.{numbers_encoding}
use Rattle.hdt_seq.specs.Width.{width_of}
use Rattle.hdt_front.specs.Decoding.{is_block_start}
use Rattle.hdt_front.specs.Section.{SectionParts}
use Rattle.hdt_front.specs.SectionWriting.{section_preamble, section_encoding}

-- The bytes of each string.
abbrev pub texts : {Z : Type 0} → List (Vec ℕ Z) → List (List ℕ)
texts strings = map (λ s. s.items) strings

-- The bytes of each borrowed string.
abbrev pub borrowed_texts : List (Bor (List ℕ)) → List (List ℕ)
borrowed_texts strings = map (λ s. s.now) strings

-- The entry of a string that shares a prefix of length `same` with the previous one: the full string if it starts a
-- block, else the prefix length as a VByte and the suffix; then a zero byte.
abbrev pub entry_with_prefix : Bool → ℕ → List ℕ → List ℕ
entry_with_prefix starts_block same string =
    cond starts_block (string ++ 0 ∷ []) (vbyte same ++ (drop same string ++ 0 ∷ []))

-- The entry of a string, with the longest common prefix.
unfoldable pub encode_entry : Bool → List ℕ → List ℕ → List ℕ
encode_entry starts_block before string = entry_with_prefix starts_block (common_prefix_len nat_eq before string) string

-- The entries of strings in blocks of b; the first has index i and follows the string `before`.
unfoldable pub encode_entries : ℕ → ℕ → List ℕ → List (List ℕ) → List (List ℕ)
encode_entries b i before [] = []
encode_entries b i before (string ∷ strings) =
    encode_entry (is_block_start b i) before string ∷ encode_entries b (i + 1) string strings

-- The block offsets of entries, and the end. The first entry has index i and begins at offset `at`.
unfoldable pub block_offsets_from : ℕ → ℕ → ℕ → List (List ℕ) → List ℕ
block_offsets_from b i at [] = at ∷ []
block_offsets_from b i at (entry ∷ entries) =
    cond (is_block_start b i) (at ∷ []) [] ++ block_offsets_from b (i + 1) (at + length entry) entries

-- The front-coded bytes of strings in blocks of b.
abbrev pub packed_of : ℕ → List (List ℕ) → List ℕ
packed_of b strings = concat (encode_entries b 0 [] strings)

-- The block offsets of strings in blocks of b.
abbrev pub block_offsets : ℕ → List (List ℕ) → List ℕ
block_offsets b strings = block_offsets_from b 0 0 (encode_entries b 0 [] strings)

-- The canonical bytes of a section with block size b.
unfoldable pub canonical : ℕ → List (List ℕ) → List ℕ
canonical b strings = section_encoding (length strings) b (block_offsets b strings) (packed_of b strings)

-- The section that these bytes encode at an offset.
unfoldable pub canonical_parts : ℕ → List (List ℕ) → ℕ → SectionParts
canonical_parts b strings at = record {
  strings = strings;
  block_size = b;
  offset_bits = width_of (block_offsets b strings);
  packed = packed_of b strings;
  packed_offset = at + length (section_preamble (length strings) (length (packed_of b strings)) b) + 1 + length
      (numbers_encoding (block_offsets b strings));
  end = at + length (canonical b strings);
}
