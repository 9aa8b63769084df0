-- Tight files: each string of the dictionary is used in its role by a triple, a shared string both as subject and as
-- object.
use Rattle.std.specs.Prelude.{ℕ, ◌+◌, ◌≤◌, ◌&&◌, Bool, List, length, Result, Ok}
use Rattle.hdt_wire.specs.declared.fault.Fault.{Fault}
use Rattle.hdt_wire.specs.declared.fault.Reason.TheVariants.{Unused}
use Rattle.hdt_wire.specs.declared.Role.{Role}
use Rattle.hdt_wire.specs.declared.Role.TheVariants.{Subject, Predicate, Object}
use Rattle.hdt_wire.specs.Checks.{◌>>=◌, demand}
use Rattle.hdt_wire.specs.ItemChecks.{checks_from}
use Rattle.hdt_front.specs.Section.{string_offset}
use Rattle.hdt_dict.specs.Dictionary.{DictionaryParts, section_by_id, role_strings}
use Rattle.hdt_triples.specs.TripleSequences.{Triple}
use Rattle.hdt_triples.specs.Uses.{Uses, uses}
use Rattle.hdt_dict.specs.declared.dictionary.SectionId.{SectionId}
use Rattle.hdt_dict.specs.declared.dictionary.SectionId.TheVariants as parts
use Rattle.hdt_file.specs.File.{GraphParts, IsLayout, decode_file, graph_of_file}

-- each ID of each role, from 1 to the number of strings, occurs in that role in a triple
abbrev pub IsTight : GraphParts → Type 0
IsTight g = (role : Role) (n : ℕ) → 1 ≤ n → n ≤ length (role_strings g.dictionary role) → Uses g.triples role n

-- the bytes are a valid encoding of the graph, and triples use all of its strings
pub record IsTightLayout (bytes : List ℕ) (graph : GraphParts) : Type 0 where
  pub layout : IsLayout bytes graph
  pub tight : IsTight graph

-- ---- the checks

-- whether triples use string n, from 1, of a section: a shared string in both roles; the IDs of the subjects section
-- and of the objects section follow those of the shared strings
unfoldable pub is_used : DictionaryParts → List Triple → SectionId → ℕ → Bool
is_used d ts parts.Shared n = uses ts Subject n && uses ts Object n
is_used d ts parts.Subjects n = uses ts Subject (length d.shared.strings + n)
is_used d ts parts.Predicates n = uses ts Predicate n
is_used d ts parts.Objects n = uses ts Object (length d.shared.strings + n)

-- the check of string i, from 0, of a section
unfoldable pub check_string_used : DictionaryParts → List Triple → SectionId → ℕ → Result (Unit {0}) Fault
check_string_used d ts section i =
    demand (is_used d ts section (i + 1)) (string_offset (section_by_id d section) i) Unused

-- the checks of all strings of a section
abbrev pub check_section_used : DictionaryParts → List Triple → SectionId → Result (Unit {0}) Fault
check_section_used d ts section =
    checks_from (check_string_used d ts section) 0 (length (section_by_id d section).strings)

-- the checks of all strings, section by section
unfoldable pub check_strings_used : DictionaryParts → List Triple → Result (Unit {0}) Fault
check_strings_used d ts = do
  _ ← check_section_used d ts parts.Shared
  _ ← check_section_used d ts parts.Subjects
  _ ← check_section_used d ts parts.Predicates
  check_section_used d ts parts.Objects

-- decodes a tight file, checking its strings after everything else: its graph, or the first error
unfoldable pub decode_tight_graph : List ℕ → Result GraphParts Fault
decode_tight_graph bytes = do
  file ← decode_file bytes
  _ ← check_strings_used file.dictionary (graph_of_file file).triples
  Ok (graph_of_file file)
