-- The table of errors (docs/NTRIPLES.md) as a relation, for a text that is to be one term: the check that fails, and
-- what precedes it.
use Rattle.std.specs.Prelude.{◌≡◌, ◌≢◌, ℕ, Bool, true, false, ◌≤◌, ◌||◌, ◌==◌, List, [], ◌∷◌, ◌++◌, length, encode_utf8}
use Rattle.std.specs.Prelude.{IsUtf8}
use Rattle.std.specs.Char.{is_ascii_alphabetic}
use Rattle.std.specs.Str.Lossy.{utf8_valid_len}
use Rattle.hdt_terms.specs.declared.fault.LineReason.TheVariants.{Syntax, RelativeIri}
use Rattle.hdt_terms.specs.declared.fault.FailedCheck.{FailedCheck}
use Rattle.hdt_terms.specs.declared.fault.TermFault.{TermFault}
use Rattle.hdt_terms.specs.declared.escaped_tokens.Token.TheVariants.{Iri, Quoted}
use Rattle.hdt_terms.specs.declared.triple.Term.{Term}
use Rattle.hdt_terms.specs.Chars.{is_absolute, is_label_start, is_whitespace}
use Rattle.hdt_terms.specs.Faults.{fault_at, not_utf8_at}
use Rattle.hdt_terms.specs.Grammar.{EncodesContent, IsWhitespace, Encodes}
use Rattle.hdt_terms.specs.ContentErrors.{ContentCheckFails}

-- The first byte, if there is one, is not of the class.
abbrev pub DoesNotBeginWith : (ℕ → Bool) → List ℕ → Type 0
DoesNotBeginWith class [] = Unit {0}
DoesNotBeginWith class (c ∷ rest) = class c ≡ false

-- The reason Syntax at the start of these bytes.
abbrev pub syntax_at : List ℕ → FailedCheck
syntax_at rest = record { left = length rest; reason = Syntax }

abbrev pub relative_at : List ℕ → FailedCheck
relative_at rest = record { left = length rest; reason = RelativeIri }

-- An IRI is expected here: its < is missing, a check of its content fails, or it isn't absolute.
pub data IriCheckFails (bytes : List ℕ) (stop : FailedCheck) : Type 0 where
  no_iri : DoesNotBeginWith (λ c. c == 60) bytes → stop ≡ syntax_at bytes → IriCheckFails bytes stop
  in_iri : (rest : List ℕ) → bytes ≡ 60 ∷ rest → ContentCheckFails Iri rest stop → IriCheckFails bytes stop
  relative : (inner iri more : List ℕ) → EncodesContent Iri inner iri → bytes ≡ 60 ∷ (inner ++ 62 ∷ more)
      → is_absolute iri ≡ false → stop ≡ relative_at bytes → IriCheckFails bytes stop

-- _: is followed by the first character of a label.
abbrev pub BeginsLabel : List ℕ → Type 0
BeginsLabel bytes = (c : ℕ) × (more : List ℕ) × (is_label_start c ≡ true) × (bytes ≡ 95 ∷ 58 ∷ (encode_utf8 c ++ more))

-- After a string: @ without a letter, ^ without a second ^, or an error of the datatype's IRI.
pub data SuffixCheckFails (bytes : List ℕ) (stop : FailedCheck) : Type 0 where
  no_tag : (before rest : List ℕ) → IsWhitespace before → bytes ≡ before ++ 64 ∷ rest
      → DoesNotBeginWith is_ascii_alphabetic rest → stop ≡ syntax_at (64 ∷ rest) → SuffixCheckFails bytes stop
  no_caret : (before rest : List ℕ) → IsWhitespace before → bytes ≡ before ++ 94 ∷ rest
      → DoesNotBeginWith (λ c. c == 94) rest → stop ≡ syntax_at (94 ∷ rest) → SuffixCheckFails bytes stop
  no_datatype : (before behind rest : List ℕ) → IsWhitespace before → IsWhitespace behind
      → bytes ≡ before ++ 94 ∷ 94 ∷ (behind ++ rest) → DoesNotBeginWith is_whitespace rest → IriCheckFails rest stop
      → SuffixCheckFails bytes stop

abbrev pub is_term_start : ℕ → Bool
is_term_start c = c == 60 || c == 95 || c == 34

-- A term is expected here, and a check fails.
pub data TermCheckFails (bytes : List ℕ) (stop : FailedCheck) : Type 0 where
  no_term : DoesNotBeginWith is_term_start bytes → stop ≡ syntax_at bytes → TermCheckFails bytes stop
  iri : (rest : List ℕ) → bytes ≡ 60 ∷ rest → IriCheckFails bytes stop → TermCheckFails bytes stop
  blank : (rest : List ℕ) → bytes ≡ 95 ∷ rest → ¬ (BeginsLabel bytes) → stop ≡ syntax_at bytes
      → TermCheckFails bytes stop
  string : (rest : List ℕ) → bytes ≡ 34 ∷ rest → ContentCheckFails Quoted rest stop → TermCheckFails bytes stop
  suffix : (inner value behind : List ℕ) → EncodesContent Quoted inner value → bytes ≡ 34 ∷ (inner ++ 34 ∷ behind)
      → SuffixCheckFails behind stop → TermCheckFails bytes stop

-- No longer prefix of the text encodes a term.
abbrev pub IsLongest : List ℕ → List ℕ → Type 0
IsLongest text front = (other : Term) (longer rest : List ℕ) → Encodes longer other → text ≡ longer ++ rest
    → length longer ≤ length front

-- The error of a text: it isn't UTF-8; a check fails; or no check fails, and bytes follow the longest term.
pub data IsTermError (text : List ℕ) (fault : TermFault) : Type 0 where
  not_utf8 : ¬ (IsUtf8 text) → fault ≡ not_utf8_at (utf8_valid_len text) → IsTermError text fault
  stopped : IsUtf8 text → (stop : FailedCheck) → TermCheckFails text stop
      → fault ≡ fault_at (length text) stop.left stop.reason → IsTermError text fault
  left_over : IsUtf8 text → ((stop : FailedCheck) → ¬ (TermCheckFails text stop)) → (term : Term) (front more : List ℕ)
      → Encodes front term → IsLongest text front → text ≡ front ++ more → more ≢ []
      → fault ≡ fault_at (length text) (length more) Syntax → IsTermError text fault
