-- Rank and select: the number of 1-bits before a position, and the position of a 1-bit.
use Rattle.std.specs.Prelude.{◌≡◌, ℕ, ◌+◌, List, Bool, true, Some, slice_get, take, count_by}

-- rank: the number of 1-bits before position i
unfoldable pub ones_before : List Bool → ℕ → ℕ
ones_before bits i = count_by (λ b. b) (take i bits)

-- select: bit i is 1, and it is the k-th 1-bit, from 1: before it are k - 1 of them
pub record IsSelect (bits : List Bool) (k i : ℕ) : Type 0 where
  pub is_one : slice_get bits i ≡ Some true
  pub before : ones_before bits i + 1 ≡ k
