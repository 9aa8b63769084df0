-- Comparing a file with its canonical form, part by part.
use Rattle.std.specs.Prelude.{◌≡◌, ℕ, List, ◌++◌, Option, Some, None}
use Rattle.hdt_wire.specs.Control.{control}
use Rattle.hdt_wire.specs.declared.control.Kind.TheVariants as kinds
use Rattle.hdt_dict.specs.Dictionary.{SectionLists}
use Rattle.hdt_dict.specs.Strings.{BorrowedString}
use Rattle.hdt_dict.specs.Writing.{mapping}
use Rattle.hdt_dict.specs.declared.dictionary.SectionId.{SectionId}
use Rattle.hdt_dict.specs.declared.dictionary.SectionId.TheVariants as sections

-- the bytes begin with the part, and this is the rest; or they do not begin with it
abbrev pub IsRestAfter : List ℕ → List ℕ → Option BorrowedString → Type 0
IsRestAfter part bytes (Some rest) = bytes ≡ part ++ rest.now
IsRestAfter part bytes None = (rest : List ℕ) → bytes ≡ part ++ rest → ⊥

-- the strings of a section
abbrev pub section_list : SectionLists → SectionId → List (List ℕ)
section_list d sections.Shared = d.shared
section_list d sections.Subjects = d.subjects
section_list d sections.Predicates = d.predicates
section_list d sections.Objects = d.objects

-- the control information of a canonical dictionary
unfoldable pub dictionary_control : List ℕ
dictionary_control = control kinds.Dictionary mapping
