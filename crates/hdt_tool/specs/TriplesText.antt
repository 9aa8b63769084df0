-- The output of `find` and `dump`: the triples with the given strings.
use Rattle.std.specs.Prelude.{◌≡◌, ◌≢◌, ◌↔◌, ℕ, Bool, true, false, List, [], ◌∷◌, ◌++◌, Option, Some, map, length}
use Rattle.std.specs.Prelude.{option_map}
use Rattle.std.specs.Fmt.{decimal}
use Rattle.std.specs.List.{flat_map}
use Rattle.std.specs.declared.alloc.Global.{Global}
use Rattle.std.specs.declared.vec.Vec.{Vec}
use Rattle.hdt_dict.specs.Strings.{BorrowedString}
use Rattle.hdt_wire.specs.declared.Role.{Role}
use Rattle.hdt_triples.specs.TripleSequences.{Triple}
use Rattle.hdt_triples.specs.declared.pattern.Pattern.{Pattern}
use Rattle.hdt_file.specs.Denoted.{denoted}
use Rattle.hdt_file.specs.File.{GraphParts}
use Rattle.hdt_file.specs.Search.{IsPattern}
use Rattle.hdt_file.specs.Text.{IsFirstNonTerm, IsTextOf}
use Rattle.hdt_file.specs.TextWriting.{matches_if_given, limited}
use Rattle.hdt_file.specs.declared.fault.DumpFault.{DumpFault}
use Rattle.hdt_file.specs.declared.fault.DumpFault.TheVariants as dumping
use Rattle.hdt_tool.specs.declared.request.OutputFormat.{OutputFormat}
use Rattle.hdt_tool.specs.declared.request.OutputFormat.TheVariants.{NTriples, Numbers, Count}
use Rattle.hdt_tool.specs.declared.fault.ToolFault.{ToolFault}
use Rattle.hdt_tool.specs.declared.fault.ToolFault.TheVariants.{NotATerm, OutOfMemory}

-- The strings for subject, predicate and object; none matches any.
abbrev pub GivenStrings : Type 0
GivenStrings = List (Option (Vec ℕ Global))

-- The same strings as borrowed slices.
abbrev pub AreBorrowed : GivenStrings → List (Option BorrowedString) → Type 0
AreBorrowed given borrowed = map (option_map (λ x. x.now)) borrowed ≡ map (option_map (λ x. x.items)) given

-- The triples with these strings: the matches of the pattern of their IDs, or no triples if a string has no ID in its
-- role.
pub record FindsStrings (g : GraphParts) (strings : List (Option (List ℕ))) (found : List Triple) : Type 0 where
  pub borrowed : List (Option BorrowedString)
  pub same : map (option_map (λ x. x.now)) borrowed ≡ strings
  pub pattern : Option Pattern
  pub exact : (p : Pattern) → (pattern ≡ Some p) ↔ IsPattern g borrowed p
  pub matching : found ≡ matches_if_given g pattern

abbrev pub Finds : GraphParts → GivenStrings → List Triple → Type 0
Finds g given found = FindsStrings g (map (option_map (λ x. x.items)) given) found

-- Holds is true for the triples with the given strings.
pub record FindsWith (g : GraphParts) (given : GivenStrings) (Holds : List Triple → Type 0) : Type 0 where
  pub found : List Triple
  pub finds : Finds g given found
  pub holds : Holds found

-- Some triple has the given strings.
abbrev pub HasMatch : GraphParts → GivenStrings → Type 0
HasMatch g given = FindsWith g given (λ found. found ≢ [])

-- No triple has the given strings.
abbrev pub LacksMatch : GraphParts → GivenStrings → Type 0
LacksMatch g given = FindsWith g given (λ found. found ≡ [])

-- A line with a triple's three IDs, separated by spaces.
abbrev pub numbers_line : Triple → List ℕ
numbers_line t = decimal t.0 ++ 32 ∷ (decimal t.1 ++ 32 ∷ (decimal t.2 ++ 10 ∷ []))

-- One line per triple, in order.
abbrev pub numbers_lines : List Triple → List ℕ
numbers_lines found = flat_map numbers_line found

-- A line with the number of triples.
abbrev pub match_count_line : List Triple → List ℕ
match_count_line found = decimal (length found) ++ 10 ∷ []

-- The output format with and without `--numbers`.
abbrev pub find_format : Bool → OutputFormat
find_format false = NTriples
find_format true = Numbers

-- The text of triples in an output format: N-Triples, lines of IDs, or a line with their number.
abbrev pub PrintsTriples : OutputFormat → GraphParts → List Triple → List ℕ → Type 0
PrintsTriples NTriples g found text = IsTextOf (denoted g found) text
PrintsTriples Numbers g found text = text ≡ numbers_lines found
PrintsTriples Count g found text = text ≡ match_count_line found

-- The text of the triples was appended.
pub record AppendsTriples (format : OutputFormat) (g : GraphParts) (found : List Triple)
    (old new : List ℕ) : Type 0 where
  pub text : List ℕ
  pub prints : PrintsTriples format g found text
  pub appended : new ≡ old ++ text

-- The error is one that printing these triples may return.
abbrev pub IsTextFault : OutputFormat → GraphParts → List Triple → DumpFault → Type 0
IsTextFault format g found (dumping.NotATerm role n) = (format ≡ NTriples) × IsFirstNonTerm g found role n
IsTextFault format g found (dumping.Write n) = ⊥
IsTextFault format g found dumping.OutOfMemory = Unit {0}

-- What `find` is asked: the given strings, the output format, and the limit.
pub record Query : Type 0 where
  pub given : GivenStrings
  pub format : OutputFormat
  pub most : Option ℕ

abbrev pub query : GivenStrings → OutputFormat → Option ℕ → Query
query given format most = record { given = given; format = format; most = most }

-- The text of the triples with the given strings, up to the limit.
abbrev pub PrintsFound : GraphParts → Query → List ℕ → Type 0
PrintsFound g asked text =
    FindsWith g asked.given (λ found. PrintsTriples asked.format g (limited asked.most found) text)

-- The output format is N-Triples, and the first string of these triples that is not a term has this role and ID.
abbrev pub HasNonTermIn : GraphParts → Query → Role → ℕ → Type 0
HasNonTermIn g asked role n = (asked.format ≡ NTriples)
    × FindsWith g asked.given (λ found. IsFirstNonTerm g (limited asked.most found) role n)

-- The error is one that `find` may return for a valid file.
abbrev pub IsFindFault : GraphParts → Query → ToolFault → Type 0
IsFindFault g asked (NotATerm role n) = HasNonTermIn g asked role n
IsFindFault g asked OutOfMemory = Unit {0}
IsFindFault g asked fault = ⊥
