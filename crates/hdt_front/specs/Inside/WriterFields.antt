-- The fields of a section writer.
use Rattle.std.specs.Prelude.{◌≡◌, ℕ, ◌+◌, ◌≤◌, ◌<◌, ◌^◌, List, [], ◌∷◌, ◌++◌, length, cond}
use Rattle.std.specs.List.{All}
use Rattle.hdt_wire.specs.Control.{HasNoZero}
use Rattle.hdt_front.specs.Decoding.{is_block_start}
use Rattle.hdt_front.specs.Section.{before}
use Rattle.hdt_front.specs.Canonical.{encode_entries, packed_of}

-- The block offsets of entries, without the end. The first entry has index i and begins at offset `at`.
unfoldable pub starts_without_end : ℕ → ℕ → ℕ → List (List ℕ) → List ℕ
starts_without_end b i at [] = []
starts_without_end b i at (entry ∷ entries) =
    cond (is_block_start b i) (at ∷ []) [] ++ starts_without_end b (i + 1) (at + length entry) entries

-- The fields of a writer hold these strings: the last string, the block offsets, and the front-coded bytes.
pub record IsWriterState (b : ℕ) (strings : List (List ℕ)) (text heads bytes : List ℕ) : Type 0 where
  pub block : 1 ≤ b
  pub fits : b < 2 ^ 32
  pub no_zero : All HasNoZero strings
  pub last : text ≡ before strings (length strings)
  pub starts : heads ≡ starts_without_end b 0 0 (encode_entries b 0 [] strings)
  pub packed : bytes ≡ packed_of b strings
