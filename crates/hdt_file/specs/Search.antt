-- Searching a graph by strings: the pattern of IDs for given strings.
use Rattle.std.specs.Prelude.{◌≡◌, ℕ, ◌+◌, List, Option, Some, None, ⊤, slice_index_or}
use Rattle.hdt_dict.specs.Ids.{string_at_id}
use Rattle.hdt_dict.specs.Strings.{BorrowedString}
use Rattle.hdt_dict.specs.Dictionary.{DictionaryParts, role_strings}
use Rattle.hdt_wire.specs.declared.Role.{Role}
use Rattle.hdt_wire.specs.declared.Role.TheVariants.{Subject, Predicate, Object}
use Rattle.hdt_triples.specs.declared.pattern.Pattern.{Pattern}
use Rattle.hdt_file.specs.File.{GraphParts}
use Rattle.hdt_dict.specs.Cost.{role_search_cost}

-- None matches any ID if no string is given; otherwise it is the ID of the string among those of the role
abbrev pub IsPatternPart : List (List ℕ) → Option BorrowedString → Option ℕ → Type 0
IsPatternPart strings None None = ⊤
IsPatternPart strings None (Some n) = ⊥
IsPatternPart strings (Some x) None = ⊥
IsPatternPart strings (Some x) (Some n) = string_at_id strings n ≡ Some x.now

-- the string given for the subject (0), the predicate (1) or the object (2)
abbrev pub string_given : List (Option BorrowedString) → ℕ → Option BorrowedString
string_given given i = slice_index_or given i None

-- the pattern has the ID of each given string in its role
pub record IsPattern (g : GraphParts) (given : List (Option BorrowedString)) (p : Pattern) : Type 0 where
  pub subject : IsPatternPart (role_strings g.dictionary Subject) (string_given given 0) p.s
  pub predicate : IsPatternPart (role_strings g.dictionary Predicate) (string_given given 1) p.p
  pub object : IsPatternPart (role_strings g.dictionary Object) (string_given given 2) p.o

-- the most steps of looking up one string
abbrev pub part_steps : DictionaryParts → Role → Option BorrowedString → ℕ
part_steps d role None = 0
part_steps d role (Some x) = role_search_cost d role

-- the most steps of looking up all three
abbrev pub pattern_steps : DictionaryParts → List (Option BorrowedString) → ℕ
pattern_steps d given = part_steps d Subject (string_given given 0) + part_steps d Predicate
    (string_given given 1) + part_steps d Object (string_given given 2)
