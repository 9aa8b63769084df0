-- The strings of an `Arena`: concatenated bytes, and the index at which each string starts.
use Rattle.std.specs.Prelude.{◌≡◌, ℕ, ◌+◌, ◌-◌, ◌<◌, ◌≤◌, List, map, length, slice_index}
use Rattle.std.specs.List.{slice_range, range_with_len}

-- string i, from 0
abbrev pub arena_string : List ℕ → List ℕ → ℕ → List ℕ
arena_string bytes starts i = slice_range bytes (slice_index starts i) (slice_index starts (i + 1))

-- all strings: one fewer than there are starts
unfoldable pub arena_strings : List ℕ → List ℕ → List (List ℕ)
arena_strings bytes starts = map (arena_string bytes starts) (range_with_len 0 (length starts - 1))

-- The starts never descend, are within the bytes, and the last one is their end.
pub record AreStringStarts (bytes starts : List ℕ) : Type 0 where
  pub some : 0 < length starts
  pub ascend : (i : ℕ) → i + 1 < length starts → slice_index starts i ≤ slice_index starts (i + 1)
  pub within : (i : ℕ) → i < length starts → slice_index starts i ≤ length bytes
  pub last : slice_index starts (length starts - 1) ≡ length bytes
