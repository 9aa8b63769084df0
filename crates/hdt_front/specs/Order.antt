-- The order of strings.
use Rattle.std.specs.Prelude.{ℕ, List, nat_eq}
use Rattle.std.specs.List.{common_prefix_len}
use Rattle.std.specs.declared.cmp.Ordering.{Ordering}
use Rattle.std.specs.Ordering.{nat_cmp}
use Rattle.std.specs.Cmp.Lexicographic.{slice_cmp}
use Rattle.std.specs.List.Sorted.{IsStrictlySortedBy}

-- By unsigned bytes; a proper prefix of a string is less than the string.
abbrev pub string_cmp : List ℕ → List ℕ → Ordering
string_cmp = slice_cmp nat_cmp

-- Each string is less than those after it.
abbrev pub IsAscending : List (List ℕ) → Type 0
IsAscending = IsStrictlySortedBy string_cmp

-- The length of the longest common prefix.
abbrev pub lcp_len : List ℕ → List ℕ → ℕ
lcp_len x y = common_prefix_len nat_eq x y
