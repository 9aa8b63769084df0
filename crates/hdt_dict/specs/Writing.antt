-- The canonical encoding of a dictionary.
use Rattle.std.specs.Prelude.{ℕ, ◌+◌, List, ◌++◌, codes, length}
use Rattle.hdt_wire.specs.declared.control.Kind.TheVariants as kinds
use Rattle.hdt_wire.specs.Control.{control}
use Rattle.hdt_front.specs.Section.{AreSectionStrings}
use Rattle.hdt_front.specs.Canonical.{canonical, canonical_parts}
use Rattle.hdt_dict.specs.Dictionary.{DictionaryParts, AreDisjoint, SectionLists}

-- The four lists are valid sections of a dictionary: each is a valid section, and no string is in two of shared,
-- subjects and objects.
pub record AreSections (d : SectionLists) : Type 0 where
  pub shared : AreSectionStrings d.shared
  pub subjects : AreSectionStrings d.subjects
  pub predicates : AreSectionStrings d.predicates
  pub objects : AreSectionStrings d.objects
  pub shared_subjects : AreDisjoint d.shared d.subjects
  pub shared_objects : AreDisjoint d.shared d.objects
  pub subjects_objects : AreDisjoint d.subjects d.objects

-- the property text: IDs of objects continue those of the shared section
abbrev pub mapping : List ℕ
mapping = codes "mapping=1;"

-- the canonical bytes with b strings a block: control information and four canonical sections
unfoldable pub canonical_dictionary : ℕ → SectionLists → List ℕ
canonical_dictionary b d =
    control kinds.Dictionary mapping
    ++ (canonical b d.shared ++ (canonical b d.subjects ++ (canonical b d.predicates ++ canonical b d.objects)))

-- the dictionary that these bytes encode at an offset
unfoldable pub canonical_dictionary_parts : ℕ → SectionLists → ℕ → DictionaryParts
canonical_dictionary_parts b d at =
    let a : ℕ = at + length (control kinds.Dictionary mapping) in
    record {
      shared = canonical_parts b d.shared a;
      subjects = canonical_parts b d.subjects (a + length (canonical b d.shared));
      predicates = canonical_parts b d.predicates (a + length (canonical b d.shared) + length (canonical b d.subjects));
      objects = canonical_parts b d.objects
          (a + length (canonical b d.shared) + length (canonical b d.subjects) + length (canonical b d.predicates));
    }
