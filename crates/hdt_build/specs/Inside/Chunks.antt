-- Lists in chunks.
use Rattle.std.specs.Prelude.{ℕ, ◌+◌, List, [], ◌∷◌, drop, slice_index_or}
use Rattle.std.specs.List.{flat_map}
use Rattle.hdt_build.specs.Inside.PackedNumbers.{unpacked_numbers}
use Rattle.hdt_build.specs.Inside.PackedStrings.{unpacked_strings}

-- the bytes of a chunk, and the number of its elements
abbrev pub Chunk : Type 0
Chunk = List ℕ × ℕ

-- the chunks with so many elements each; the bytes are empty where there are fewer
unfoldable pub with_counts : List (List ℕ) → List ℕ → List Chunk
with_counts chunks [] = []
with_counts chunks (n ∷ ns) = (slice_index_or chunks 0 [], n) ∷ with_counts (drop 1 chunks) ns

-- the number of elements of chunks
abbrev pub element_count : List Chunk → ℕ
element_count [] = 0
element_count (c ∷ cs) = c.1 + element_count cs

-- the numbers of chunks
abbrev pub chunk_numbers : List Chunk → List ℕ
chunk_numbers chunks = flat_map (λ c. unpacked_numbers c.1 c.0) chunks

-- the strings of chunks
abbrev pub chunk_strings : List Chunk → List (List ℕ)
chunk_strings chunks = flat_map (λ c. unpacked_strings c.1 [] c.0) chunks
