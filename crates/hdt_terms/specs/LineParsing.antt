-- Parsing a line from left to right, up to the first check that fails: the table of errors in docs/NTRIPLES.md.
use Rattle.std.specs.Prelude.{◌≡◌, ℕ, Bool, true, false, ◌||◌, ◌⊎◌, List, [], ◌∷◌, length, Option, None, Some, Result}
use Rattle.std.specs.Prelude.{Ok, Err, ◌==◌, if◌then◌else◌}
use Rattle.hdt_terms.specs.declared.fault.LineReason.TheVariants.{Syntax}
use Rattle.hdt_terms.specs.declared.fault.FailedCheck.{FailedCheck}
use Rattle.hdt_terms.specs.declared.fault.ParseError.{ParseError}
use Rattle.hdt_terms.specs.declared.fault.TermFault.{TermFault}
use Rattle.hdt_wire.specs.declared.Role.{Role}
use Rattle.hdt_wire.specs.declared.Role.TheVariants.{Subject, Predicate, Object}
use Rattle.hdt_terms.specs.declared.triple.Term.{Term}
use Rattle.hdt_terms.specs.declared.triple.Triple.{Triple}
use Rattle.hdt_terms.specs.TermParsing.{◌>>=◌, Fails, stops, skip_whitespace, term_at}
use Rattle.hdt_terms.specs.Faults.{fault_at, out_of_memory, unless_not_utf8}
use Rattle.hdt_terms.specs.Terms.{dictionary_string}

-- Whether a term of the role may start with this byte: a predicate only with <, a subject with < or _.
abbrev pub begins : Role → ℕ → Bool
begins Subject c = c == 60 || c == 95
begins Predicate c = c == 60
begins Object c = true

-- The term of the role that starts here.
unfoldable pub role_term_at : Role → List ℕ → Result (Term × List ℕ) FailedCheck
role_term_at role [] = stops Syntax []
role_term_at role (c ∷ rest) = if begins role c then term_at (c ∷ rest) else stops Syntax (c ∷ rest)

-- The term of the role after whitespace.
unfoldable pub role_term_after_whitespace : Role → List ℕ → Result (Term × List ℕ) FailedCheck
role_term_after_whitespace role bytes = role_term_at role (skip_whitespace bytes)

-- Empty, or a comment.
abbrev pub is_comment_or_end : List ℕ → Bool
is_comment_or_end [] = true
is_comment_or_end (c ∷ rest) = c == 35

-- Whitespace and an optional comment.
unfoldable pub is_blank_or_comment : List ℕ → Bool
is_blank_or_comment text = is_comment_or_end (skip_whitespace text)

-- The end of the line, or a comment.
abbrev pub comment_or_end_at : List ℕ → Result (Unit {0}) FailedCheck
comment_or_end_at rest = if is_comment_or_end rest then Ok tt else stops Syntax rest

-- The full stop that ends a triple, and an optional comment.
abbrev pub full_stop_at : List ℕ → Result (Unit {0}) FailedCheck
full_stop_at [] = stops Syntax []
full_stop_at (c ∷ rest) = if c == 46 then comment_or_end_at (skip_whitespace rest) else stops Syntax (c ∷ rest)

-- The full stop after whitespace.
unfoldable pub full_stop_after_whitespace : List ℕ → Result (Unit {0}) FailedCheck
full_stop_after_whitespace bytes = full_stop_at (skip_whitespace bytes)

-- The triple of a line.
unfoldable pub line_triple_at : List ℕ → Result Triple FailedCheck
line_triple_at bytes =
    role_term_after_whitespace Subject bytes >>= λ s.
    role_term_after_whitespace Predicate s.1 >>= λ p.
    role_term_after_whitespace Object p.1 >>= λ o.
    full_stop_after_whitespace o.1 >>= λ _. Ok (record { s = s.0; p = p.0; o = o.0 })

-- The failed check as an error with its column.
abbrev pub with_column : {A : Type 0} → List ℕ → Result A FailedCheck → Result A TermFault
with_column text (Ok x) = Ok x
with_column text (Err stop) = Err (fault_at (length text) stop.left stop.reason)

-- The triple of a line that is UTF-8 and not blank, or its error.
unfoldable pub line_triple : List ℕ → Result Triple TermFault
line_triple text = with_column text (line_triple_at text)

abbrev pub as_line : {A : Type 0} → Result A TermFault → Result (Option A) TermFault
as_line (Ok x) = Ok (Some x)
as_line (Err fault) = Err fault

-- None for a line of whitespace and an optional comment; else what parsing gives, or the first error.
unfoldable pub unless_blank : {A : Type 0} → List ℕ → Result A FailedCheck → Result (Option A) TermFault
unless_blank text read = unless_not_utf8 text
    (if is_blank_or_comment text then Ok None else as_line (with_column text read))

-- The triple of the line, if it has one, or its first error.
abbrev pub line_in : List ℕ → Result (Option Triple) TermFault
line_in text = unless_blank text (line_triple_at text)

-- Parsing the text as a line fails with this error.
abbrev pub LineParseFails : List ℕ → TermFault → Type 0
LineParseFails text fault = line_in text ≡ Err fault

-- ---- the strings of a triple

-- These are the dictionary strings of the triple's terms.
pub record AreTripleStrings (triple : Triple) (s p o : List ℕ) : Type 0 where
  pub s_is : s ≡ dictionary_string triple.s
  pub p_is : p ≡ dictionary_string triple.p
  pub o_is : o ≡ dictionary_string triple.o

-- The buffers have the strings of the parsed triple, unless memory ran out.
abbrev pub PutsTripleStrings : {X : Type 0} → List ℕ → List ℕ → List ℕ → Result X ParseError → Result Triple FailedCheck
    → Type 0
PutsTripleStrings s p o (Ok x) read = (triple : Triple) × (read ≡ Ok triple) × AreTripleStrings triple s p o
PutsTripleStrings s p o (Err e) read = Fails e read

-- The buffers have the strings of the parsed triple, or this is the error of the line, unless memory ran out.
abbrev pub ReturnsTripleStrings : {X : Type 0} → List ℕ → List ℕ → List ℕ → Result X TermFault → Result Triple TermFault
    → Type 0
ReturnsTripleStrings s p o (Ok x) read = (triple : Triple) × (read ≡ Ok triple) × AreTripleStrings triple s p o
ReturnsTripleStrings s p o (Err fault) read = (fault ≡ out_of_memory) ⊎ (read ≡ Err fault)

-- Parsing a line that may have no triple: the buffers have the strings of its triple, it has none, or this is its
-- error, unless memory ran out.
abbrev pub ReturnsLineStrings : List ℕ → List ℕ → List ℕ → Result Bool TermFault → Result (Option Triple) TermFault
    → Type 0
ReturnsLineStrings s p o (Ok true) read = (triple : Triple) × (read ≡ Ok (Some triple)) × AreTripleStrings triple s p o
ReturnsLineStrings s p o (Ok false) read = read ≡ Ok None
ReturnsLineStrings s p o (Err fault) read = (fault ≡ out_of_memory) ⊎ (read ≡ Err fault)
