-- The strings of many IDs.
use Rattle.std.specs.Prelude.{◌≡◌, ◌⊎◌, ℕ, List, [], length, Option, Some, None}
use Rattle.std.specs.List.{concat}
use Rattle.hdt_wire.specs.declared.Role.{Role}
use Rattle.hdt_dict.specs.Dictionary.{role_strings}
use Rattle.hdt_dict.specs.StringBatch.{AreIds, ends_from, strings_by_id}
use Rattle.hdt_file.specs.File.{GraphParts}
use Rattle.hdt_c.specs.LookUps.{absent, no_memory}
use Rattle.hdt_c.specs.Bytes.{HoldsBytes, HoldsNoBytes}
use Rattle.hdt_c.specs.CallerBuffer.{overwritten_prefix}
use Rattle.hdt_c.specs.declared.bytes.HdtBytes.{HdtBytes}

-- each number is the ID of a string of the role
abbrev pub AreIdsOfRole : GraphParts → Option Role → List ℕ → Type 0
AreIdsOfRole g None numbers = ⊥
AreIdsOfRole g (Some role) numbers = AreIds (role_strings g.dictionary role) numbers

-- the strings with these IDs
abbrev pub strings_with_ids : GraphParts → Option Role → List ℕ → List (List ℕ)
strings_with_ids g None numbers = []
strings_with_ids g (Some role) numbers = strings_by_id (role_strings g.dictionary role) numbers

-- the bytes are the strings, one after another; the result is their length, and the byte offset at which each ends was
-- written to the buffer
pub record WritesStrings (strings : List (List ℕ)) (answer : ℕ) (out : HdtBytes) (old new : List ℕ) : Type 0 where
  pub bytes : HoldsBytes out (concat strings)
  pub count : answer ≡ length (concat strings)
  pub places : new ≡ overwritten_prefix (ends_from 0 strings) old

-- there are no bytes, and nothing was written to the buffer
abbrev pub WritesNothing : HdtBytes → List ℕ → List ℕ → Type 0
WritesNothing out old new = HoldsNoBytes out × (new ≡ old)

-- there are no bytes because a number is not an ID, or, if all of them are IDs, because memory ran out
abbrev pub ReportsFailure : Type 0 → ℕ → Type 0
ReportsFailure There answer = ((There → ⊥) × (answer ≡ absent)) ⊎ (((There → ⊥) → ⊥) × (answer ≡ no_memory))

-- the result of `hdt_strings`
abbrev pub ReturnsStrings : GraphParts → Option Role → List ℕ → ℕ → HdtBytes → List ℕ → List ℕ → Type 0
ReturnsStrings g role numbers answer out old new =
    (AreIdsOfRole g role numbers × WritesStrings (strings_with_ids g role numbers) answer out old new)
    ⊎ (WritesNothing out old new × ReportsFailure (AreIdsOfRole g role numbers) answer)
