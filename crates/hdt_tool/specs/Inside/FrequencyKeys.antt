-- The keys by which `count --top` sorts IDs.
use Rattle.std.specs.Prelude.{◌+◌, ◌-◌, ◌^◌, ◌<◌, ℕ, List, length, map}
use Rattle.std.specs.List.Sorted.{IsPermutation, IsSorted}
use Rattle.std.specs.Ordering.{nat_cmp, ordering_then}
use Rattle.std.specs.declared.cmp.Ordering.{Ordering}
use Rattle.hdt_wire.specs.declared.Role.{Role}
use Rattle.hdt_dict.specs.Dictionary.{role_strings}
use Rattle.hdt_file.specs.File.{GraphParts}
use Rattle.hdt_tool.specs.TermCounts.{role_ids, use_count}

-- The key of ID n: the lesser of two keys is that of the more frequent ID, or of the lesser one if both are as
-- frequent.
abbrev pub frequency_key : GraphParts → Role → ℕ → ℕ × ℕ
frequency_key g role n = (2 ^ 64 - 1 - use_count g role n, n)

-- The order of pairs of numbers.
abbrev pub pair_cmp : ℕ × ℕ → ℕ × ℕ → Ordering
pair_cmp x y = ordering_then (nat_cmp x.0 y.0) (nat_cmp x.1 y.1)

-- Each of the first IDs has fewer than 2^64 triples.
abbrev pub CountsFit : GraphParts → Role → ℕ → Type 0
CountsFit g role count = (n : ℕ) → n < count → use_count g role (1 + n) < 2 ^ 64

-- The keys of all IDs of the role, ascending.
pub record AreFrequencyKeys (g : GraphParts) (role : Role) (keys : List (ℕ × ℕ)) : Type 0 where
  pub all : IsPermutation (map (frequency_key g role) (role_ids g role)) keys
  pub sorted : IsSorted pair_cmp keys
  pub fit : CountsFit g role (length (role_strings g.dictionary role))
