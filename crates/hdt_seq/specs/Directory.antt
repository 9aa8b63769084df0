-- Rank/select indexes: the numbers of 1-bits before each group of 512 bits, and in total.
use Rattle.std.specs.Prelude.{◌≡◌, ◌≤◌, ℕ, ◌+◌, ◌*◌, ◌/◌, List, Bool, length, slice_index}
use Rattle.hdt_seq.specs.declared.directory.Directory.{Directory}
use Rattle.hdt_seq.specs.RankSelect.{ones_before}

-- the number of groups; the last one may have fewer bits
abbrev pub groups : List Bool → ℕ
groups bits = (length bits + 511) / 512

-- count g is the number of 1-bits before group g; the last count is the total
pub record AreGroupCounts (counts : List ℕ) (bits : List Bool) : Type 0 where
  pub many : length counts ≡ groups bits + 1
  pub each : (g : ℕ) → g ≤ groups bits → slice_index counts g ≡ ones_before bits (512 * g)

-- the counts that an index keeps
unfoldable pub stored_counts : Directory → List ℕ
stored_counts d = d.counts.items

-- the index is that of these bits
abbrev pub IsDirectoryOf : Directory → List Bool → Type 0
IsDirectoryOf d bits = AreGroupCounts (stored_counts d) bits
