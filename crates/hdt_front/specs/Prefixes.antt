-- The strings that begin with a prefix.
use Rattle.std.specs.Prelude.{◌≡◌, ℕ, ◌+◌, ◌-◌, ◌<◌, ◌≤◌, List, [], length, take, get_or}

-- The string begins with the prefix.
abbrev pub BeginsWith : List ℕ → List ℕ → Type 0
BeginsWith prefix string = take (length prefix) string ≡ prefix

-- The strings that begin with a prefix are those with IDs, from 1, from `start` on and before `end`.
pub record IsPrefixRange (strings : List (List ℕ)) (prefix : List ℕ) (start end : ℕ) : Type 0 where
  pub some : 1 ≤ start
  pub ordered : start ≤ end
  pub within : end ≤ length strings + 1
  pub inside : (n : ℕ) → start ≤ n → n < end → BeginsWith prefix (get_or strings (n - 1) [])
  pub all : (n : ℕ) → 1 ≤ n → n ≤ length strings → BeginsWith prefix (get_or strings (n - 1) [])
      → (start ≤ n) × (n < end)
