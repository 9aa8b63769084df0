-- Dividing the strings of three roles into the four sections of a dictionary (HDT submission, dictionary). A string
-- that is both a subject and an object is stored once, in the shared section.
use Rattle.std.specs.Prelude.{ℕ, List, ◌↔◌}
use Rattle.std.specs.List.{Contains}
use Rattle.hdt_front.specs.Canonical.{texts}
use Rattle.hdt_front.specs.WriterState.{SectionWriterState}
use Rattle.hdt_front.specs.Order.{IsAscending}
use Rattle.hdt_dict.specs.declared.parts.Parts.{Parts}
use Rattle.hdt_dict.specs.Dictionary.{SectionLists}

-- the strings of `Parts`
unfoldable pub lists_of_parts : Parts → SectionLists
lists_of_parts p = record {
  shared = texts p.shared.items;
  subjects = texts p.subjects.items;
  predicates =
      texts p.predicates.items;
  objects = texts p.objects.items;
}

-- the strings that four section writers have been given
abbrev pub lists_of_writers : SectionWriterState → SectionWriterState → SectionWriterState → SectionWriterState
    → SectionLists
lists_of_writers s u p o =
    record { shared = s.strings; subjects = u.strings; predicates = p.strings; objects = o.strings }

-- The four lists are the sections of the subjects ss, the predicates ps and the objects os. Each list ascends. A string
-- is in shared exactly if it is both a subject and an object, in subjects exactly if it is only a subject, and in
-- objects exactly if it is only an object. Predicates have a section of their own.
pub record IsSplit (ss ps os : List (List ℕ)) (d : SectionLists) : Type 0 where
  pub shared_ascend : IsAscending d.shared
  pub subjects_ascend : IsAscending d.subjects
  pub predicates_ascend : IsAscending d.predicates
  pub objects_ascend : IsAscending d.objects
  pub shared : (x : List ℕ) → Contains d.shared x ↔ (Contains ss x × Contains os x)
  pub subjects : (x : List ℕ) → Contains d.subjects x ↔ (Contains ss x × ¬ (Contains os x))
  pub predicates : (x : List ℕ) → Contains d.predicates x ↔ Contains ps x
  pub objects : (x : List ℕ) → Contains d.objects x ↔ (Contains os x × ¬ (Contains ss x))
