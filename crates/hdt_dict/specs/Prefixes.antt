-- The IDs of the strings that begin with a prefix.
use Rattle.std.specs.Prelude.{ℕ, ◌+◌, ◌<◌, ◌≤◌, ◌⊎◌, List, Option, Some, None}
use Rattle.hdt_front.specs.Prefixes.{BeginsWith}
use Rattle.hdt_dict.specs.declared.prefix.PrefixRanges.{PrefixRanges}

-- there is a string, and it begins with the prefix
abbrev pub SomeBeginsWith : List ℕ → Option (List ℕ) → Type 0
SomeBeginsWith prefix None = ⊥
SomeBeginsWith prefix (Some string) = BeginsWith prefix string

-- the ID is in one of the two ranges, which do not include their ends
abbrev pub IsInRanges : PrefixRanges → ℕ → Type 0
IsInRanges r n = ((r.first.start ≤ n) × (n < r.first.end)) ⊎ ((r.second.start ≤ n) × (n < r.second.end))

-- the ranges are one after another, among the IDs of `count` strings
abbrev pub RangesAscend : PrefixRanges → ℕ → Type 0
RangesAscend r count = (1 ≤ r.first.start) × (r.first.start ≤ r.first.end) × (r.first.end ≤ r.second.start)
    × (r.second.start ≤ r.second.end) × (r.second.end ≤ count + 1)
