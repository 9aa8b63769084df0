-- The strings of a window of a file's triples.
use Rattle.std.specs.Prelude.{◌≡◌, ℕ, ◌<◌, List, [], length, slice_index, slice_index_or}
use Rattle.hdt_wire.specs.declared.Role.{Role}
use Rattle.hdt_wire.specs.declared.Role.TheVariants.{Subject, Predicate, Object}
use Rattle.hdt_dict.specs.Strings.{BorrowedString}
use Rattle.hdt_triples.specs.TripleSequences.{Triple}
use Rattle.hdt_file.specs.Denoted.{StringTriple, denoted, string_of}
use Rattle.hdt_file.specs.File.{GraphParts}
use Rattle.hdt_build.specs.Relabelling.{relabelled, relabelled_triples}
use Rattle.hdt_build.specs.declared.window_strings.RoleStrings.{RoleStrings}
use Rattle.hdt_build.specs.declared.window_strings.WindowStrings.{WindowStrings}

-- each string is that of the ID with the same index, with the prefix before its label
abbrev pub AreStringsOfIds : List ℕ → GraphParts → Role → List ℕ → List (List ℕ) → Type 0
AreStringsOfIds prefix g role ids strings = (i : ℕ) → i < length strings
    → slice_index_or strings i [] ≡ relabelled prefix (string_of g role (slice_index ids i))

-- `AreStringsOfIds` of what is kept of a role
abbrev pub HasRoleStrings : List ℕ → GraphParts → Role → RoleStrings → Type 0
HasRoleStrings prefix g role made = AreStringsOfIds prefix g role made.ids.items made.strings

-- `HasRoleStrings` of each role
pub record HasWindowStrings (prefix : List ℕ) (g : GraphParts) (w : WindowStrings) : Type 0 where
  pub subjects : HasRoleStrings prefix g Subject w.subjects
  pub predicates : HasRoleStrings prefix g Predicate w.predicates
  pub objects : HasRoleStrings prefix g Object w.objects

-- the strings of a triple, with the prefix before their labels
pub record AreStringsOfTriple (prefix : List ℕ) (g : GraphParts) (t : Triple)
    (strings : BorrowedString × BorrowedString × BorrowedString) : Type 0 where
  pub subject : strings.0.now ≡ relabelled prefix (string_of g Subject t.0)
  pub predicate : strings.1.now ≡ relabelled prefix (string_of g Predicate t.1)
  pub object : strings.2.now ≡ relabelled prefix (string_of g Object t.2)

-- the string triples of ID triples, with the prefix before the labels of their strings
abbrev pub strings_of_triples : List ℕ → GraphParts → List Triple → List StringTriple
strings_of_triples prefix g ts = relabelled_triples prefix (denoted g ts)
