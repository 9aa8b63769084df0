-- The strings of a dictionary that are not terms which their roles allow.
use Rattle.std.specs.Prelude.{◌≡◌, ◌⊎◌, ℕ, ◌+◌, List, [], ◌∷◌, ◌++◌, length}
use Rattle.hdt_wire.specs.declared.Role.{Role}
use Rattle.hdt_wire.specs.declared.Role.TheVariants.{Subject, Predicate, Object}
use Rattle.hdt_front.specs.Section.{SectionParts, string_offset}
use Rattle.hdt_dict.specs.Dictionary.{DictionaryParts}
use Rattle.hdt_file.specs.File.{FileParts, IsFile, graph_of_file}
use Rattle.hdt_file.specs.Graph.{graph_counts}
use Rattle.hdt_file.specs.Text.{HasTerm, HasNoTerm}
use Rattle.hdt_file.specs.declared.non_terms.NonTerm.{NonTerm}
use Rattle.hdt_file.specs.declared.non_terms.TermVerdict.{TermVerdict}

-- Exactly those of the strings that are not terms which the role allows, in order. String i has ID `before + i + 1` and
-- the byte offset `place i`.
abbrev pub AreNonTermsFrom : Role → ℕ → (ℕ → ℕ) → ℕ → List (List ℕ) → List NonTerm → Type 0
AreNonTermsFrom role before place i [] found = found ≡ []
AreNonTermsFrom role before place i (x ∷ xs) found =
    (HasTerm role x × AreNonTermsFrom role before place (i + 1) xs found)
    ⊎ (HasNoTerm role x × (more : List NonTerm) × AreNonTermsFrom role before place (i + 1) xs more
    × (found ≡ record { role = role; number = before + i + 1; place = place i } ∷ more))

-- exactly those of a section, whose IDs follow the first `before` IDs of the role
abbrev pub AreNonTermsOf : Role → ℕ → SectionParts → List NonTerm → Type 0
AreNonTermsOf role before section found = AreNonTermsFrom role before (string_offset section) 0 section.strings found

-- exactly those of the dictionary: of each role, in the order of the IDs; a shared string is in two roles
pub record AreNonTerms (d : DictionaryParts) (found : List NonTerm) : Type 0 where
  pub shared_subjects : List NonTerm
  pub subjects : List NonTerm
  pub predicates : List NonTerm
  pub shared_objects : List NonTerm
  pub objects : List NonTerm
  pub are_shared_subjects : AreNonTermsOf Subject 0 d.shared shared_subjects
  pub are_subjects : AreNonTermsOf Subject (length d.shared.strings) d.subjects subjects
  pub are_predicates : AreNonTermsOf Predicate 0 d.predicates predicates
  pub are_shared_objects : AreNonTermsOf Object 0 d.shared shared_objects
  pub are_objects : AreNonTermsOf Object (length d.shared.strings) d.objects objects
  pub whole : found ≡ shared_subjects ++ subjects ++ predicates ++ shared_objects ++ objects

-- the bytes encode a file with these counts, of whose strings exactly these are not terms
pub record IsTermVerdict (bytes : List ℕ) (verdict : TermVerdict) : Type 0 where
  pub file : FileParts
  pub encoded : IsFile file bytes
  pub counts : verdict.counts ≡ graph_counts (graph_of_file file)
  pub non_terms : AreNonTerms file.dictionary verdict.non_terms.items
