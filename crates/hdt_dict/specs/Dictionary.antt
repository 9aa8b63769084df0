-- The dictionary (HDT submission, dictionary; rdfhdt.org, "HDT binary format", Four Sections): control information,
-- then the sections shared, subjects, predicates and objects. No string is in two of shared, subjects and objects.
use Rattle.std.specs.Prelude.{ℕ, zero, suc, not, List, [], ◌++◌, length, slice_index_or, Result, Ok}
use Rattle.std.specs.List.{Contains}
use Rattle.hdt_wire.specs.declared.fault.Fault.{Fault}
use Rattle.hdt_wire.specs.declared.fault.Reason.TheVariants.{SectionsOverlap}
use Rattle.hdt_wire.specs.declared.control.Kind.TheVariants as kinds
use Rattle.hdt_wire.specs.Checks.{◌>>=◌, demand}
use Rattle.hdt_wire.specs.Control.{ControlInfo, IsControlAt, control_at}
use Rattle.hdt_wire.specs.ItemChecks.{checks_from}
use Rattle.hdt_front.specs.Section.{SectionParts, IsSectionAt, string_offset, section_at, PackedParts, packed_parts_at}
use Rattle.hdt_dict.specs.Strings.{has}
use Rattle.hdt_dict.specs.declared.dictionary.SectionId.{SectionId}
use Rattle.hdt_dict.specs.declared.dictionary.SectionId.TheVariants as sections
use Rattle.hdt_wire.specs.declared.Role.{Role}
use Rattle.hdt_wire.specs.declared.Role.TheVariants.{Subject, Predicate, Object}

-- a dictionary: its four sections, with their byte offsets
pub record DictionaryParts : Type 0 where
  pub shared : SectionParts
  pub subjects : SectionParts
  pub predicates : SectionParts
  pub objects : SectionParts

-- the strings of the four sections
pub record SectionLists : Type 0 where
  pub shared : List (List ℕ)
  pub subjects : List (List ℕ)
  pub predicates : List (List ℕ)
  pub objects : List (List ℕ)

-- the strings of a dictionary
abbrev pub lists_of_dictionary : DictionaryParts → SectionLists
lists_of_dictionary d = record {
  shared = d.shared.strings;
  subjects = d.subjects.strings;
  predicates =
      d.predicates.strings;
  objects = d.objects.strings;
}

-- the strings of a role, in the order of their IDs: ID 1 is the first
abbrev pub role_strings : SectionLists → Role → List (List ℕ)
role_strings d Subject = d.shared ++ d.subjects
role_strings d Predicate = d.predicates
role_strings d Object = d.shared ++ d.objects

-- the section at an index, from 0, in file order
abbrev pub section_id : ℕ → SectionId
section_id zero = sections.Shared
section_id (suc zero) = sections.Subjects
section_id (suc (suc zero)) = sections.Predicates
section_id (suc (suc (suc i))) = sections.Objects

-- a section, its strings with their byte offsets
abbrev pub section_by_id : DictionaryParts → SectionId → SectionParts
section_by_id d sections.Shared = d.shared
section_by_id d sections.Subjects = d.subjects
section_by_id d sections.Predicates = d.predicates
section_by_id d sections.Objects = d.objects

-- no string is in both lists
abbrev pub AreDisjoint : List (List ℕ) → List (List ℕ) → Type 0
AreDisjoint xs ys = (x : List ℕ) → Contains xs x → Contains ys x → ⊥

-- The dictionary is encoded at the offset: control information with any properties, then the four sections. No string
-- is in two of shared, subjects and objects.
pub record IsDictionaryAt (d : DictionaryParts) (bytes : List ℕ) (at : ℕ) : Type 0 where
  pub control : ControlInfo
  pub control_is : IsControlAt kinds.Dictionary control bytes at
  pub shared : IsSectionAt d.shared bytes control.end
  pub subjects : IsSectionAt d.subjects bytes d.shared.end
  pub predicates : IsSectionAt d.predicates bytes d.subjects.end
  pub objects : IsSectionAt d.objects bytes d.predicates.end
  pub shared_subjects : AreDisjoint d.shared.strings d.subjects.strings
  pub shared_objects : AreDisjoint d.shared.strings d.objects.strings
  pub subjects_objects : AreDisjoint d.subjects.strings d.objects.strings

-- ---- the checks

-- string i of a section is not one of the others
unfoldable pub disjoint_check : List (List ℕ) → SectionParts → ℕ → Result (Unit {0}) Fault
disjoint_check others s i =
    demand (not (has others (slice_index_or s.strings i []))) (string_offset s i) SectionsOverlap

-- no string of a section is one of the others
abbrev pub disjoint_at : List (List ℕ) → SectionParts → Result (Unit {0}) Fault
disjoint_at others s = checks_from (disjoint_check others s) 0 (length s.strings)

-- all checks in order: the dictionary, or the first error
unfoldable pub dictionary_at : List ℕ → ℕ → Result DictionaryParts Fault
dictionary_at bytes at = do
  control ← control_at kinds.Dictionary bytes at
  shared ← section_at bytes control.end
  subjects ← section_at bytes shared.end
  predicates ← section_at bytes subjects.end
  objects ← section_at bytes predicates.end
  _ ← disjoint_at shared.strings subjects
  _ ← disjoint_at (shared.strings ++ subjects.strings) objects
  Ok (record { shared = shared; subjects = subjects; predicates = predicates; objects = objects })

-- the checks before any string is decoded: the control information, and the header of the first section
unfoldable pub checks_before_strings : List ℕ → ℕ → Result PackedParts Fault
checks_before_strings bytes at = do
  control ← control_at kinds.Dictionary bytes at
  packed_parts_at bytes control.end
