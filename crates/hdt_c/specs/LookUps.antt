-- What the calls that query a graph return.
use Rattle.std.specs.Prelude.{◌≡◌, ◌⊎◌, ℕ, List, [], ◌∷◌, suc, zero, map, take, drop, length, Option, Some, None}
use Rattle.hdt_wire.specs.declared.Role.{Role}
use Rattle.hdt_wire.specs.declared.Role.TheVariants.{Subject, Predicate, Object}
use Rattle.hdt_dict.specs.Ids.{string_at_id}
use Rattle.hdt_dict.specs.Strings.{BorrowedString}
use Rattle.hdt_triples.specs.TripleSequences.{Triple}
use Rattle.hdt_triples.specs.Patterns.{matches}
use Rattle.hdt_triples.specs.declared.pattern.Pattern.{Pattern}
use Rattle.hdt_file.specs.File.{GraphParts}
use Rattle.hdt_dict.specs.Dictionary.{role_strings}
use Rattle.hdt_c.specs.CallerBuffer.{overwritten_prefix}

-- ---- results that are not an ID, a count or a length: 2^64 - 1, - 2 and - 3

-- there is no such role, ID or string
abbrev pub absent : ℕ
absent = 18446744073709551615

-- memory ran out
abbrev pub no_memory : ℕ
no_memory = 18446744073709551614

-- the graph isn't open
abbrev pub closed : ℕ
closed = 18446744073709551613

-- ---- roles and their strings

-- the role with a number of c/hdt.h
abbrev pub role_by_number : ℕ → Option Role
role_by_number zero = Some Subject
role_by_number (suc zero) = Some Predicate
role_by_number (suc (suc zero)) = Some Object
role_by_number (suc (suc (suc n))) = None

-- the number of strings of the role
abbrev pub role_len : GraphParts → Option Role → ℕ
role_len g None = absent
role_len g (Some role) = length (role_strings g.dictionary role)

-- the string of the role with this ID
abbrev pub string_with_id : GraphParts → Option Role → ℕ → Option (List ℕ)
string_with_id g None n = None
string_with_id g (Some role) n = string_at_id (role_strings g.dictionary role) n

-- the result is the ID of the string in the list, or `absent` if it is not in there
pub record IsIdIn (strings : List (List ℕ)) (string : List ℕ) (answer : ℕ) : Type 0 where
  pub found : (n : ℕ) → string_at_id strings n ≡ Some string → answer ≡ n
  pub none : ((n : ℕ) → string_at_id strings n ≡ Some string → ⊥) → answer ≡ absent

-- the result is the ID of the string in the role
abbrev pub ReturnsId : GraphParts → Option Role → List ℕ → ℕ → Type 0
ReturnsId g None string answer = answer ≡ absent
ReturnsId g (Some role) string answer = IsIdIn (role_strings g.dictionary role) string answer

-- the string was written to the buffer, and its length is the result; or memory ran out; or there is no such string
abbrev pub ReturnsString : Option (List ℕ) → ℕ → List ℕ → List ℕ → Type 0
ReturnsString None answer old new = (answer ≡ absent) × (new ≡ old)
ReturnsString (Some string) answer old new = ((answer ≡ length string) × (new ≡ overwritten_prefix string old))
    ⊎ ((answer ≡ no_memory) × (new ≡ old))

-- ---- matches

-- the string of a pattern, if the flag is not 0
abbrev pub string_if_flag : ℕ → BorrowedString → Option BorrowedString
string_if_flag zero x = None
string_if_flag (suc n) x = Some x

-- the triples are the matches of the pattern that is given, or none if what is given is no pattern of the graph, as
-- with a string that is not one of its role
pub record AreMatches (g : GraphParts) (IsGiven : Pattern → Type 0) (found : List Triple) : Type 0 where
  pub items : (p : Pattern) → IsGiven p → found ≡ matches p g.triples
  pub none : ((p : Pattern) → IsGiven p → ⊥) → found ≡ []

-- P is true of the matches of the pattern that is given
pub record MatchesSatisfy (g : GraphParts) (IsGiven : Pattern → Type 0) (P : List Triple → Type 0) : Type 0 where
  pub found : List Triple
  pub are : AreMatches g IsGiven found
  pub holds : P found

-- the three IDs of a triple
abbrev pub numbers : Triple → List ℕ
numbers t = t.0 ∷ t.1 ∷ t.2 ∷ []

-- the triples after the first `skip` were written to the buffer, as many as fit, and their number is the result
abbrev pub PutsMatchesAfter : ℕ → ℕ → List (List ℕ) → List (List ℕ) → List Triple → Type 0
PutsMatchesAfter skip answer old new found = (answer ≡ length (take (length old) (drop skip found)))
    × (new ≡ overwritten_prefix (map numbers (drop skip found)) old)
