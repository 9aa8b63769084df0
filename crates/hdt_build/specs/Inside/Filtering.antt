-- The sections of triples over an ascending list of strings.
use Rattle.std.specs.Prelude.{◌≡◌, ◌↔◌, ◌<◌, ℕ, Bool, true, false, List, [], length, slice_index, slice_index_or}
use Rattle.hdt_wire.specs.Control.{HasNoZero}
use Rattle.hdt_wire.specs.declared.Role.{Role}
use Rattle.hdt_wire.specs.declared.Role.TheVariants.{Subject, Predicate, Object}
use Rattle.hdt_dict.specs.Split.{IsSplit}
use Rattle.hdt_triples.specs.TripleSequences.{Triple}
use Rattle.hdt_triples.specs.Uses.{AreUseFlags, Uses}
use Rattle.hdt_build.specs.declared.role_flags.RoleFlags.{RoleFlags}
use Rattle.hdt_build.specs.Graph.{subjects_of, predicates_of, objects_of, string_triples_of}
use Rattle.hdt_build.specs.Inside.Rewriting.{IsIdOf, IsWrittenSection}
use Rattle.hdt_dict.specs.Dictionary.{SectionLists, role_strings}

-- the flag at an index; false past the end
abbrev pub flag_at : List Bool → ℕ → Bool
flag_at flags k = slice_index_or flags k false

-- the flags are so many in each role
pub record HaveLength (n : ℕ) (flags : RoleFlags) : Type 0 where
  pub subjects : length flags.subjects.items ≡ n
  pub predicates : length flags.predicates.items ≡ n
  pub objects : length flags.objects.items ≡ n

-- the flags of n indices are those of the ones that triples use in each role
pub record AreFlagsOfRoles (ids : List Triple) (n : ℕ) (flags : RoleFlags) : Type 0 where
  pub long : HaveLength n flags
  pub subjects : AreUseFlags ids Subject flags.subjects.items
  pub predicates : AreUseFlags ids Predicate flags.predicates.items
  pub objects : AreUseFlags ids Object flags.objects.items

-- a rank has a flag exactly if an index with this rank has one
abbrev pub AreFlagsOfRanks : List Bool → List ℕ → List Bool → Type 0
AreFlagsOfRanks flags ranks made = (n : ℕ) → n < length made
    → (flag_at made n ≡ true) ↔ ((k : ℕ) × (k < length ranks) × (flag_at flags k ≡ true) × (slice_index ranks k ≡ n))

-- the same in each role
pub record AreRankedFlags (flags : RoleFlags) (ranks : List ℕ) (made : RoleFlags) : Type 0 where
  pub subjects : AreFlagsOfRanks flags.subjects.items ranks made.subjects.items
  pub predicates : AreFlagsOfRanks flags.predicates.items ranks made.predicates.items
  pub objects : AreFlagsOfRanks flags.objects.items ranks made.objects.items

-- a dictionary can have each string with a flag
abbrev pub HaveTexts : List (List ℕ) → List Bool → Type 0
HaveTexts xs flags = (k : ℕ) → flag_at flags k ≡ true → HasNoZero (slice_index_or xs k [])

-- the section has the string at index k: it is used in one role, and also, or not, in the other
abbrev pub IsInFilter : List Bool → List Bool → Bool → ℕ → Type 0
IsInFilter used other wanted k = (flag_at used k ≡ true) × (flag_at other k ≡ wanted)

-- the strings are those of xs at the indices that pass the filter, with their IDs
abbrev pub IsFilteredSection : List (List ℕ) → (ℕ → Type 0) → ℕ → List (List ℕ) → List ℕ → List ℕ → Type 0
IsFilteredSection xs keeps = IsWrittenSection keeps (λ k. slice_index_or xs k [])

-- at each index that triples use in a role, the ID of its string among the terms is stored
abbrev pub HaveIds : List (List ℕ) → List Triple → Role → List (List ℕ) → List ℕ → Type 0
HaveIds xs triples role terms ids = (k : ℕ) → Uses triples role k
    → IsIdOf terms (slice_index_or xs k []) (slice_index ids k)

-- The four lists are the sections of the triples, and each string in use has its IDs: one as a subject or an object,
-- and one as a predicate.
pub record AreSectionsOf (xs : List (List ℕ)) (ids : List Triple) (d : SectionLists)
    (nodes predicates : List ℕ) : Type 0 where
  pub sections : IsSplit (subjects_of (string_triples_of xs ids)) (predicates_of (string_triples_of xs ids))
      (objects_of (string_triples_of xs ids)) d
  pub subjects_are : HaveIds xs ids Subject (role_strings d Subject) nodes
  pub predicates_are : HaveIds xs ids Predicate (role_strings d Predicate) predicates
  pub objects_are : HaveIds xs ids Object (role_strings d Object) nodes
  pub nodes_long : length nodes ≡ length xs
  pub predicates_long : length predicates ≡ length xs
