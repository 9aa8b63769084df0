-- Rewriting the sections of a graph: each retains the strings that triples use, and IDs are mapped to new ones.
use Rattle.std.specs.Prelude.{◌≡◌, ℕ, ◌+◌, ◌-◌, ◌%◌, ◌^◌, ◌<◌, ◌≤◌, List, [], length, drop, slice_index}
use Rattle.std.specs.List.{Contains}
use Rattle.std.specs.Option.{unwrap_or}
use Rattle.std.specs.declared.cmp.Ordering.TheVariants.{Less, Greater}
use Rattle.hdt_wire.specs.declared.Role.{Role}
use Rattle.hdt_wire.specs.declared.Role.TheVariants.{Subject, Predicate, Object}
use Rattle.hdt_front.specs.Order.{string_cmp, lcp_len, IsAscending}
use Rattle.hdt_dict.specs.Split.{IsSplit, lists_of_writers}
use Rattle.hdt_dict.specs.Ids.{string_at_id}
use Rattle.hdt_dict.specs.Iteration.{RoleIterState}
use Rattle.hdt_triples.specs.TripleSequences.{Triple}
use Rattle.hdt_triples.specs.Uses.{Uses}
use Rattle.hdt_file.specs.Denoted.{string_of}
use Rattle.hdt_file.specs.File.{GraphParts}
use Rattle.hdt_dict.specs.Dictionary.{role_strings, SectionLists}
use Rattle.hdt_dict.specs.declared.dictionary.SectionId.{SectionId}
use Rattle.hdt_dict.specs.declared.dictionary.SectionId.TheVariants as sections
use Rattle.hdt_build.specs.declared.section_run.SectionRun.{SectionRun}
use Rattle.hdt_build.specs.declared.sections.SectionWriters.{SectionWriters}
use Rattle.hdt_build.specs.declared.sections.NewIds.{NewIds}
use Rattle.hdt_build.specs.declared.id_map.IdMap.{IdMap}
use Rattle.hdt_build.specs.declared.id_map.IdMap.TheVariants as id_maps
use Rattle.hdt_build.specs.Graph.{subjects_of, predicates_of, objects_of}
use Rattle.hdt_build.specs.Layouts.{denoted_by}

-- ---- IDs of strings: positions in a list, from 1

-- the string with ID n; empty if there is none
abbrev pub string_of_id : List (List ℕ) → ℕ → List ℕ
string_of_id terms n = unwrap_or (string_at_id terms n) []

-- n is an ID of x
pub record IsIdOf (terms : List (List ℕ)) (x : List ℕ) (n : ℕ) : Type 0 where
  pub from_one : 0 < n
  pub within : n ≤ length terms
  pub is : string_of_id terms n ≡ x

-- ---- the strings that the new sections retain

-- the role whose IDs identify the strings of a section
abbrev pub section_role : SectionId → Role
section_role sections.Shared = Subject
section_role sections.Subjects = Subject
section_role sections.Predicates = Predicate
section_role sections.Objects = Object

-- n is the ID of a shared string that is used both as a subject and as an object
abbrev pub IsUsedInBoth : GraphParts → ℕ → Type 0
IsUsedInBoth g n = (n ≤ length g.dictionary.shared) × Uses g.triples Subject n × Uses g.triples Object n

-- the new section has the string with ID n of its role
abbrev pub RetainsId : GraphParts → SectionId → ℕ → Type 0
RetainsId g sections.Shared n = IsUsedInBoth g n
RetainsId g sections.Subjects n = Uses g.triples Subject n × (IsUsedInBoth g n → ⊥)
RetainsId g sections.Predicates n = Uses g.triples Predicate n
RetainsId g sections.Objects n = Uses g.triples Object n × (IsUsedInBoth g n → ⊥)

-- The candidates of a section are two ascending runs of the strings of its role: indices 0 up to `first_run_end`,
-- and from there up to `second_run_end`.
abbrev pub first_run_end : GraphParts → SectionId → ℕ
first_run_end g sections.Shared = 0
first_run_end g sections.Subjects = length g.dictionary.shared
first_run_end g sections.Predicates = 0
first_run_end g sections.Objects = length g.dictionary.shared

abbrev pub second_run_end : GraphParts → SectionId → ℕ
second_run_end g sections.Shared = length g.dictionary.shared
second_run_end g sections.Subjects = length (role_strings g.dictionary Subject)
second_run_end g sections.Predicates = length (role_strings g.dictionary Predicate)
second_run_end g sections.Objects = length (role_strings g.dictionary Object)

-- ---- runs

-- the state of an iteration over all strings: the remaining ones are those after the ones returned
pub record IsProgressOf (all : List (List ℕ)) (w : RoleIterState) : Type 0 where
  pub within : w.given ≤ length all
  pub ahead : w.ahead ≡ drop w.given all

-- the string with ID n was returned last
pub record IsAfterString (all : List (List ℕ)) (n : ℕ) (w : RoleIterState) : Type 0 where
  pub progress : IsProgressOf all w
  pub given : w.given ≡ n
  pub last : w.last ≡ string_of_id all n

-- the current string of a run is decoded, and the section retains it
pub record IsAtCurrent (g : GraphParts) (section : SectionId) (run : SectionRun) : Type 0 where
  pub given : run.strings.given ≡ run.at + 1
  pub last : run.strings.last ≡ string_of g (section_role section) (run.at + 1)
  pub kept : RetainsId g section (run.at + 1)

-- a run is at a string that the section retains, or at its end
pub record IsValidRun (g : GraphParts) (section : SectionId) (run : SectionRun) : Type 0 where
  pub progress : IsProgressOf (role_strings g.dictionary (section_role section)) run.strings
  pub within : run.end ≤ length (role_strings g.dictionary (section_role section))
  pub to : run.at ≤ run.end
  pub here : run.at < run.end → IsAtCurrent g section run

-- the run is at the first such string from an index on
pub record IsRunFrom (g : GraphParts) (section : SectionId) (from : ℕ) (run : SectionRun) : Type 0 where
  pub is_run : IsValidRun g section run
  pub onward : from ≤ run.at
  pub passed : (k : ℕ) → from ≤ k → k < run.at → RetainsId g section (k + 1) → ⊥

-- the run records the length of the common prefix of its current string and the one written last
abbrev pub HasPrefixLength : List ℕ → SectionRun → Type 0
HasPrefixLength last run = run.at < run.end → run.lcp ≡ lcp_len last run.strings.last

-- The prefix lengths that two runs record decide the order of their current strings, and the length of their common
-- prefix: the run with the longer one is less. If they are equal, the strings have at least that prefix in common.
pub record PrefixesDecideOrder (one two : SectionRun) : Type 0 where
  pub first : two.lcp < one.lcp → (string_cmp one.strings.last two.strings.last ≡ Less)
      × (lcp_len one.strings.last two.strings.last ≡ two.lcp)
  pub second : one.lcp < two.lcp → (string_cmp one.strings.last two.strings.last ≡ Greater)
      × (lcp_len one.strings.last two.strings.last ≡ one.lcp)
  pub tied : one.lcp ≡ two.lcp → one.lcp ≤ lcp_len one.strings.last two.strings.last

-- ---- what was written

-- v is the ID of x in a list that follows `ids_before` other strings
pub record IsIdAfter (ids_before : ℕ) (terms : List (List ℕ)) (x : List ℕ) (v : ℕ) : Type 0 where
  pub id : ℕ
  pub is_id : IsIdOf terms x id
  pub value : v ≡ ids_before + id

-- The strings are those at the indices that a section keeps, in ascending order. Their IDs, after `ids_before` other
-- strings, are stored at these indices; all other entries are unchanged.
pub record IsWrittenSection (keeps : ℕ → Type 0) (string : ℕ
    → List ℕ) (ids_before : ℕ) (strings : List (List ℕ)) (before after : List ℕ) : Type 0 where
  pub ascend : IsAscending strings
  pub each : (x : List ℕ) → Contains strings x → (k : ℕ) × keeps k × (string k ≡ x)
  pub ids : (k : ℕ) → keeps k → IsIdAfter ids_before strings (string k) (slice_index after k)
  pub others : (k : ℕ) → (keeps k → ⊥) → slice_index after k ≡ slice_index before k
  pub long : length after ≡ length before

-- the strings are those that the section of a graph retains, with their new IDs at their old indices
abbrev pub IsRewrittenSection : GraphParts → SectionId → ℕ → List (List ℕ) → List ℕ → List ℕ → Type 0
IsRewrittenSection g section =
    IsWrittenSection (λ k. RetainsId g section (k + 1)) (λ k. string_of g (section_role section) (k + 1))

-- the new ID of an old one
abbrev pub new_id : IdMap → ℕ → ℕ
new_id id_maps.Unchanged n = n
new_id (id_maps.Listed v) n = slice_index v.items (n - 1)
new_id (id_maps.Shifted first) n = (first + (n - 1)) % 2 ^ 64

-- each ID of a role that triples use is mapped to the ID of its string among the terms
abbrev pub HaveNewIds : GraphParts → Role → List (List ℕ) → (ℕ → ℕ) → Type 0
HaveNewIds g role terms new = (n : ℕ) → Uses g.triples role n → IsIdOf terms (string_of g role n) (new n)

-- The four lists are the sections of the graph that is denoted, and each ID in use is mapped to its new one.
pub record AreRewrittenSections (g : GraphParts) (d : SectionLists) (new : NewIds) : Type 0 where
  pub sections : IsSplit (subjects_of (denoted_by g)) (predicates_of (denoted_by g)) (objects_of (denoted_by g)) d
  pub subjects_are : HaveNewIds g Subject (role_strings d Subject) (new_id new.subjects)
  pub predicates_are : HaveNewIds g Predicate (role_strings d Predicate) (new_id new.predicates)
  pub objects_are : HaveNewIds g Object (role_strings d Object) (new_id new.objects)

-- a triple with new IDs
abbrev pub with_new_ids : NewIds → Triple → Triple
with_new_ids new t = (new_id new.subjects t.0, new_id new.predicates t.1, new_id new.objects t.2)

-- the strings that the four section writers have been given
abbrev pub lists_of_sections : SectionWriters → SectionLists
lists_of_sections d = lists_of_writers d.shared d.subjects d.predicates d.objects

-- each has b strings a block
pub record HaveBlockSize (b : ℕ) (d : SectionWriters) : Type 0 where
  pub shared : d.shared.block_size ≡ b
  pub subjects : d.subjects.block_size ≡ b
  pub predicates : d.predicates.block_size ≡ b
  pub objects : d.objects.block_size ≡ b
