-- Decoding front-coded strings. These functions are total: on bytes that are not a valid front coding their values have
-- no meaning.
use Rattle.std.specs.Prelude.{ℕ, ◌+◌, ◌-◌, ◌/◌, ◌%◌, ◌==◌, Bool, List, [], ◌∷◌, ◌++◌, take, drop, cond, zero, suc}
use Rattle.std.specs.Prelude.{Result, Ok, Err}
use Rattle.hdt_wire.specs.declared.fault.Fault.{Fault}
use Rattle.hdt_wire.specs.Checks.{len_before_zero}
use Rattle.hdt_wire.specs.VByte.{vbyte_at}

-- The value that was read, or a default on an error.
abbrev pub value_or : {A : Type 0} → A → Result A Fault → A
value_or d (Ok x) = x
value_or d (Err f) = d

-- The prefix length of the entry at the start of the bytes; 0 if the entry starts a block, as such entries store none.
unfoldable pub stored_prefix_len : Bool → List ℕ → ℕ
stored_prefix_len starts_block bytes = cond starts_block 0 (value_or (0, 0) (vbyte_at bytes 0)).0

-- The bytes from the suffix of the entry on.
unfoldable pub bytes_from_suffix : Bool → List ℕ → List ℕ
bytes_from_suffix starts_block bytes = cond starts_block bytes (drop (value_or (0, 0) (vbyte_at bytes 0)).1 bytes)

-- The suffix of the entry.
unfoldable pub suffix_of : Bool → List ℕ → List ℕ
suffix_of starts_block bytes =
    take (len_before_zero (bytes_from_suffix starts_block bytes)) (bytes_from_suffix starts_block bytes)

-- The string of the entry, given the previous string: a prefix of that, and the suffix.
unfoldable pub decoded_string : Bool → List ℕ → List ℕ → List ℕ
decoded_string starts_block before bytes =
    take (stored_prefix_len starts_block bytes) before ++ suffix_of starts_block bytes

-- The bytes after the entry.
unfoldable pub after_entry : Bool → List ℕ → List ℕ
after_entry starts_block bytes =
    drop (len_before_zero (bytes_from_suffix starts_block bytes) + 1) (bytes_from_suffix starts_block bytes)

-- Whether string i, from 0, is the first of its block.
abbrev pub is_block_start : ℕ → ℕ → Bool
is_block_start b i = (i % b) == 0

-- The number of blocks of n strings: n divided by the block size, rounded up.
abbrev pub block_count : ℕ → ℕ → ℕ
block_count n block_size = (n + (block_size - 1)) / block_size

-- The next n strings. The first has index i and follows the string `before`.
unfoldable pub decoded_strings : ℕ → ℕ → ℕ → List ℕ → List ℕ → List (List ℕ)
decoded_strings b zero i before bytes = []
decoded_strings b (suc n) i before bytes =
    decoded_string (is_block_start b i) before bytes
    ∷ decoded_strings b n (i + 1) (decoded_string (is_block_start b i) before bytes)
    (after_entry (is_block_start b i) bytes)
