-- What the calls that write N-Triples text guarantee.
use Rattle.std.specs.Prelude.{◌≡◌, ℕ, ◌<◌, ◌++◌, ⊤, List, [], ◌∷◌, length, take, Option, None, Some}
use Rattle.std.specs.Io.KnownBytes.{Appends}
use Rattle.hdt_terms.specs.declared.triple.Term.{Term}
use Rattle.hdt_terms.specs.Writing.{written}
use Rattle.hdt_wire.specs.declared.Role.{Role}
use Rattle.hdt_wire.specs.declared.Role.TheVariants.{Subject, Predicate, Object}
use Rattle.hdt_triples.specs.TripleSequences.{Triple}
use Rattle.hdt_triples.specs.Patterns.{matches}
use Rattle.hdt_triples.specs.declared.pattern.Pattern.{Pattern}
use Rattle.hdt_file.specs.File.{GraphParts}
use Rattle.hdt_triples.specs.Uses.{role_component}
use Rattle.hdt_file.specs.Denoted.{denoted_triple, denoted}
use Rattle.hdt_file.specs.Text.{TermTriple, IsTermOf, AreTermsOf, HasNoTerm, IsFirstNonTermOfTriple, IsFirstNonTerm}
use Rattle.hdt_file.specs.Text.{IsTextOf, line}
use Rattle.hdt_file.specs.declared.fault.DumpFault.{DumpFault}
use Rattle.hdt_file.specs.declared.fault.DumpFault.TheVariants.{NotATerm, Write, OutOfMemory}

-- the matches of a pattern, or no triple without a pattern
abbrev pub matches_if_given : GraphParts → Option Pattern → List Triple
matches_if_given g None = []
matches_if_given g (Some p) = matches p g.triples

-- the first `most` triples, or all of them
abbrev pub limited : Option ℕ → List Triple → List Triple
limited None ts = ts
limited (Some most) ts = take most ts

-- what follows the term of a role in a line: a space, and after the object also a full stop and a line feed
abbrev pub separator : Role → List ℕ
separator Subject = 32 ∷ []
separator Predicate = 32 ∷ []
separator Object = 32 ∷ 46 ∷ 10 ∷ []

-- the term as it is written in a line, with what follows it
abbrev pub render : Role → Term → List ℕ
render role term = written term ++ separator role

-- `new` is `old` with the term of the string appended, and with what follows it in a line
pub record AppendsTerm (role : Role) (string old new : List ℕ) : Type 0 where
  pub term : Term
  pub is : IsTermOf role string term
  pub grown : new ≡ old ++ render role term

-- the error names this role and ID, and the string is not a term that the role allows; or memory ran out
abbrev pub ReportsNonTerm : Role → ℕ → List ℕ → DumpFault → Type 0
ReportsNonTerm role n string (NotATerm other m) = (other ≡ role) × (m ≡ n) × HasNoTerm role string
ReportsNonTerm role n string (Write k) = ⊥
ReportsNonTerm role n string OutOfMemory = ⊤

-- `new` is `old` with the line of a triple appended
pub record AppendsLine (g : GraphParts) (t : Triple) (old new : List ℕ) : Type 0 where
  pub terms : TermTriple
  pub are : AreTermsOf (denoted_triple g t) terms
  pub grown : new ≡ old ++ line terms

-- the error names the first string of the triple that is not a term which its role allows; or memory ran out
abbrev pub ReportsNonTermOfTriple : GraphParts → Triple → DumpFault → Type 0
ReportsNonTermOfTriple g t (NotATerm role n) = IsFirstNonTermOfTriple (denoted_triple g t) role
    × (n ≡ role_component role t)
ReportsNonTermOfTriple g t (Write k) = ⊥
ReportsNonTermOfTriple g t OutOfMemory = ⊤

-- `new` is `old` with the text of triples appended
pub record AppendsText (g : GraphParts) (ts : List Triple) (old new : List ℕ) : Type 0 where
  pub text : List ℕ
  pub is : IsTextOf (denoted g ts) text
  pub grown : new ≡ old ++ text

-- the error names the first such string of the first such triple; or memory ran out
abbrev pub ReportsFirstNonTerm : GraphParts → List Triple → DumpFault → Type 0
ReportsFirstNonTerm g ts (NotATerm role n) = IsFirstNonTerm g ts role n
ReportsFirstNonTerm g ts (Write k) = ⊥
ReportsFirstNonTerm g ts OutOfMemory = ⊤

-- the text of the triples, of n bytes, was written
pub record WritesText (g : GraphParts) (ts : List Triple) (before after : Option (List ℕ)) (n : ℕ) : Type 0 where
  pub text : List ℕ
  pub is : IsTextOf (denoted g ts) text
  pub written : Appends before after text
  pub size : n ≡ length text

-- exactly the first n bytes of the text of the triples were written, but not all of it
pub record WritesPrefix (g : GraphParts) (ts : List Triple) (before after : Option (List ℕ)) (n : ℕ) : Type 0 where
  pub text : List ℕ
  pub is : IsTextOf (denoted g ts) text
  pub within : n < length text
  pub written : Appends before after (take n text)
