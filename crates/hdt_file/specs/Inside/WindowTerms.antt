-- The terms of a window of triples as they are written in lines.
use Rattle.std.specs.Prelude.{ℕ, ◌<◌, List, [], length, slice_index, slice_index_or}
use Rattle.hdt_wire.specs.declared.Role.{Role}
use Rattle.hdt_dict.specs.Strings.{BorrowedString}
use Rattle.hdt_wire.specs.declared.Role.TheVariants.{Subject, Predicate, Object}
use Rattle.hdt_triples.specs.TripleSequences.{Triple}
use Rattle.hdt_file.specs.Denoted.{string_of}
use Rattle.hdt_file.specs.File.{GraphParts}
use Rattle.hdt_file.specs.TextWriting.{AppendsTerm}
use Rattle.hdt_file.specs.declared.window_terms.RoleTerms.{RoleTerms}
use Rattle.hdt_file.specs.declared.window_terms.WindowTerms.{WindowTerms}

-- each entry that is not empty is the term of the ID with the same index, with what follows it in a line
abbrev pub AreTermsOfIds : GraphParts → Role → List ℕ → List (List ℕ) → Type 0
AreTermsOfIds g role ids terms = (i : ℕ) → i < length terms → 0 < length (slice_index_or terms i [])
    → AppendsTerm role (string_of g role (slice_index ids i)) [] (slice_index_or terms i [])

abbrev pub HasRoleTerms : GraphParts → Role → RoleTerms → Type 0
HasRoleTerms g role made = AreTermsOfIds g role made.ids.items made.terms

-- the entries of each role
pub record HasWindowTerms (g : GraphParts) (w : WindowTerms) : Type 0 where
  pub subjects : HasRoleTerms g Subject w.subjects
  pub predicates : HasRoleTerms g Predicate w.predicates
  pub objects : HasRoleTerms g Object w.objects

-- the terms of a triple, each with what follows it in a line
pub record HasTermsOf (g : GraphParts) (t : Triple)
    (terms : BorrowedString × BorrowedString × BorrowedString) : Type 0 where
  pub subject : AppendsTerm Subject (string_of g Subject t.0) [] terms.0.now
  pub predicate : AppendsTerm Predicate (string_of g Predicate t.1) [] terms.1.now
  pub object : AppendsTerm Object (string_of g Object t.2) [] terms.2.now
