-- The output of `count`: the terms of a role with the numbers of their triples.
use Rattle.std.specs.Prelude.{◌≡◌, ℕ, Bool, true, false, List, [], ◌∷◌, ◌++◌, Option, None, Some, length, take}
use Rattle.std.specs.Fmt.{decimal}
use Rattle.std.specs.List.{range_with_len}
use Rattle.std.specs.List.Sorted.{IsPermutation, IsSorted}
use Rattle.std.specs.Ordering.{nat_cmp, ordering_then}
use Rattle.std.specs.declared.cmp.Ordering.{Ordering}
use Rattle.hdt_wire.specs.declared.Role.{Role}
use Rattle.hdt_wire.specs.declared.Role.TheVariants.{Subject, Predicate, Object}
use Rattle.hdt_terms.specs.declared.triple.Term.{Term}
use Rattle.hdt_terms.specs.Terms.{IsDictionaryTerm, dictionary_string}
use Rattle.hdt_terms.specs.Writing.{written}
use Rattle.hdt_dict.specs.Dictionary.{role_strings}
use Rattle.hdt_dict.specs.Ids.{string_at_id}
use Rattle.hdt_triples.specs.Bounds.{of_subject, of_predicate, of_object}
use Rattle.hdt_triples.specs.Patterns.{matches}
use Rattle.hdt_triples.specs.declared.pattern.Pattern.{Pattern}
use Rattle.hdt_file.specs.File.{GraphParts}
use Rattle.hdt_tool.specs.PrintedReports.{escaped}
use Rattle.hdt_tool.specs.StringsText.{AreLinesOf, IsFirstWithoutLine}
use Rattle.hdt_tool.specs.declared.fault.ToolFault.{ToolFault}
use Rattle.hdt_tool.specs.declared.fault.ToolFault.TheVariants.{NotATerm, OutOfMemory}

-- ---- counts

-- The pattern of the triples with ID n in a role.
abbrev pub role_pattern : Role → ℕ → Pattern
role_pattern Subject n = of_subject n
role_pattern Predicate n = of_predicate n
role_pattern Object n = of_object n

-- The number of triples with ID n in a role.
abbrev pub use_count : GraphParts → Role → ℕ → ℕ
use_count g role n = length (matches (role_pattern role n) g.triples)

-- The IDs of a role.
abbrev pub role_ids : GraphParts → Role → List ℕ
role_ids g role = range_with_len 1 (length (role_strings g.dictionary role))

-- ---- lines

-- A string as it is printed: escaped with `--raw`, else as the N-Triples term that it is the string of.
abbrev pub IsStringOrTerm : Bool → List ℕ → List ℕ → Type 0
IsStringOrTerm true string shown = shown ≡ escaped string
IsStringOrTerm false string shown = (term : Term) × IsDictionaryTerm term × (dictionary_string term ≡ string)
    × (shown ≡ written term)

-- The line of ID n: its count, a tab and its string.
pub record IsCountLine (g : GraphParts) (role : Role) (raw : Bool) (n : ℕ) (line : List ℕ) : Type 0 where
  pub string : List ℕ
  pub found : string_at_id (role_strings g.dictionary role) n ≡ Some string
  pub shown : List ℕ
  pub is : IsStringOrTerm raw string shown
  pub line_is : line ≡ decimal (use_count g role n) ++ 9 ∷ (shown ++ 10 ∷ [])

-- The text has the lines of these IDs, in order.
abbrev pub AreCountLines : GraphParts → Role → Bool → List ℕ → List ℕ → Type 0
AreCountLines g role raw ids text = AreLinesOf (IsCountLine g role raw) ids text

-- ---- the order of lines

-- The order of IDs by frequency: the more frequent one first, and of those as frequent the lesser one.
abbrev pub use_cmp : GraphParts → Role → ℕ → ℕ → Ordering
use_cmp g role m n = ordering_then (nat_cmp (use_count g role n) (use_count g role m)) (nat_cmp m n)

-- The IDs that are printed: all, in order; or the `top` most frequent ones, the most frequent first.
abbrev pub AreCountedIds : GraphParts → Role → Option ℕ → List ℕ → Type 0
AreCountedIds g role None ids = ids ≡ role_ids g role
AreCountedIds g role (Some top) ids = (order : List ℕ) × IsPermutation (role_ids g role) order
    × IsSorted (use_cmp g role) order × (ids ≡ take top order)

-- The text is the output of `count`.
pub record PrintsCounts (g : GraphParts) (role : Role) (top : Option ℕ) (raw : Bool) (text : List ℕ) : Type 0 where
  pub ids : List ℕ
  pub counted : AreCountedIds g role top ids
  pub lines : AreCountLines g role raw ids text

-- ---- errors

-- The error is one that `count` may return: without `--raw`, the first string to print that is not a term.
abbrev pub IsCountFault : GraphParts → Role → Option ℕ → Bool → ToolFault → Type 0
IsCountFault g role top raw (NotATerm other n) = (other ≡ role) × (raw ≡ false)
    × ((ids : List ℕ) × AreCountedIds g role top ids
    × IsFirstWithoutLine (IsCountLine g role false) (role_strings g.dictionary role) ids n)
IsCountFault g role top raw OutOfMemory = Unit {0}
IsCountFault g role top raw fault = ⊥
