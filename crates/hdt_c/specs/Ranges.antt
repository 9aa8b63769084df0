-- The IDs of the strings that begin with a prefix.
use Rattle.std.specs.Prelude.{◌≡◌, ◌↔◌, ℕ, ◌+◌, ◌-◌, List, [], ◌∷◌, length, Option, Some, None}
use Rattle.hdt_wire.specs.declared.Role.{Role}
use Rattle.hdt_dict.specs.Dictionary.{role_strings}
use Rattle.hdt_dict.specs.Ids.{string_at_id}
use Rattle.hdt_dict.specs.Prefixes.{IsInRanges, RangesAscend, SomeBeginsWith}
use Rattle.hdt_dict.specs.declared.prefix.PrefixRanges.{PrefixRanges}
use Rattle.hdt_file.specs.File.{GraphParts}
use Rattle.hdt_c.specs.LookUps.{absent}
use Rattle.hdt_c.specs.declared.prefix.HdtRanges.{HdtRanges}

-- the ranges in the types of C
abbrev pub ranges_in_c : PrefixRanges → HdtRanges
ranges_in_c r = record { first = r.first.start ∷ r.first.end ∷ []; second = r.second.start ∷ r.second.end ∷ [] }

-- the ranges have exactly the IDs of the strings of the role that begin with the prefix; they are one after another, so
-- no ID is in both, and the result is the number of these IDs
pub record HasIdsWithPrefix (g : GraphParts) (role : Role) (prefix : List ℕ) (answer : ℕ)
    (new : HdtRanges) : Type 0 where
  pub ranges : PrefixRanges
  pub exact : (n : ℕ) → IsInRanges ranges n ↔ SomeBeginsWith prefix (string_at_id (role_strings g.dictionary role) n)
  pub ascend : RangesAscend ranges (length (role_strings g.dictionary role))
  pub are : new ≡ ranges_in_c ranges
  pub count : answer ≡ (ranges.first.end - ranges.first.start) + (ranges.second.end - ranges.second.start)

-- the result of `hdt_prefix`
abbrev pub ReturnsRanges : GraphParts → Option Role → List ℕ → ℕ → HdtRanges → HdtRanges → Type 0
ReturnsRanges g None prefix answer old new = (answer ≡ absent) × (new ≡ old)
ReturnsRanges g (Some role) prefix answer old new = HasIdsWithPrefix g role prefix answer new
