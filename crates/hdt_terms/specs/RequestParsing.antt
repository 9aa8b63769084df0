-- Parsing a request from left to right, up to the first check that fails: the checks of a line, except that ? may
-- replace a term and the full stop is optional.
use Rattle.std.specs.Prelude.{◌≡◌, ℕ, Bool, true, false, ◌⊎◌, List, [], ◌∷◌, Option, None, Some, Result, Ok, Err, ◌==◌}
use Rattle.std.specs.Prelude.{if◌then◌else◌}
use Rattle.hdt_terms.specs.declared.fault.LineReason.TheVariants.{Syntax}
use Rattle.hdt_terms.specs.declared.fault.FailedCheck.{FailedCheck}
use Rattle.hdt_terms.specs.declared.fault.ParseError.{ParseError}
use Rattle.hdt_terms.specs.declared.fault.TermFault.{TermFault}
use Rattle.hdt_wire.specs.declared.Role.{Role}
use Rattle.hdt_wire.specs.declared.Role.TheVariants.{Subject, Predicate, Object}
use Rattle.hdt_terms.specs.declared.triple.Term.{Term}
use Rattle.hdt_terms.specs.Faults.{out_of_memory}
use Rattle.hdt_terms.specs.LineParsing.{role_term_at, comment_or_end_at, unless_blank}
use Rattle.hdt_terms.specs.TermParsing.{◌>>=◌, Fails, stops, skip_whitespace}
use Rattle.hdt_terms.specs.Requests.{TermPattern}
use Rattle.hdt_terms.specs.Terms.{dictionary_string}

abbrev pub as_pattern_term : Term × List ℕ → Result (Option Term × List ℕ) FailedCheck
as_pattern_term x = Ok (Some x.0, x.1)

-- ?, or the term of the role, that starts here.
unfoldable pub pattern_term_at : Role → List ℕ → Result (Option Term × List ℕ) FailedCheck
pattern_term_at role [] = stops Syntax []
pattern_term_at role (c ∷ rest) = if c == 63 then Ok (None, rest) else role_term_at role (c ∷ rest) >>= as_pattern_term

-- ?, or the term of the role, after whitespace.
unfoldable pub pattern_term_after_whitespace : Role → List ℕ → Result (Option Term × List ℕ) FailedCheck
pattern_term_after_whitespace role bytes = pattern_term_at role (skip_whitespace bytes)

-- An optional full stop, and an optional comment.
abbrev pub optional_stop_at : List ℕ → Result (Unit {0}) FailedCheck
optional_stop_at [] = Ok tt
optional_stop_at (c ∷ rest) = if c == 46 then comment_or_end_at (skip_whitespace rest) else comment_or_end_at (c ∷ rest)

-- The optional full stop after whitespace.
unfoldable pub optional_stop_after_whitespace : List ℕ → Result (Unit {0}) FailedCheck
optional_stop_after_whitespace bytes = optional_stop_at (skip_whitespace bytes)

-- The request of a line.
unfoldable pub request_at : List ℕ → Result TermPattern FailedCheck
request_at bytes =
    pattern_term_after_whitespace Subject bytes >>= λ s.
    pattern_term_after_whitespace Predicate s.1 >>= λ p.
    pattern_term_after_whitespace Object p.1 >>= λ o.
    optional_stop_after_whitespace o.1 >>= λ _. Ok (record { s = s.0; p = p.0; o = o.0 })

-- The request of the line, if it has one, or its first error.
abbrev pub request_in : List ℕ → Result (Option TermPattern) TermFault
request_in text = unless_blank text (request_at text)

-- Parsing the text as a request fails with this error.
abbrev pub RequestParseFails : List ℕ → TermFault → Type 0
RequestParseFails text fault = request_in text ≡ Err fault

-- ---- the strings of a request

-- Whether a term is given.
abbrev pub is_given : Option Term → Bool
is_given None = false
is_given (Some term) = true

-- The dictionary string of the term, or the empty string for ?.
abbrev pub pattern_term_string : Option Term → List ℕ
pattern_term_string None = []
pattern_term_string (Some term) = dictionary_string term

-- The buffer has the string of the parsed term or ?, unless memory ran out.
abbrev pub PutsPatternTerm : {X : Type 0} → (X → Bool) → (X → List ℕ) → List ℕ → Result X ParseError
    → Result (Option Term × List ℕ) FailedCheck → Type 0
PutsPatternTerm given left out (Ok x) read = (part : Option Term) × (read ≡ Ok (part, left x))
    × (given x ≡ is_given part) × (out ≡ pattern_term_string part)
PutsPatternTerm given left out (Err e) read = Fails e read

-- given says which terms are given, and s, p, o are their strings.
pub record ArePatternStrings (asked : TermPattern) (given : List Bool) (s p o : List ℕ) : Type 0 where
  pub given_is : given ≡ is_given asked.s ∷ is_given asked.p ∷ is_given asked.o ∷ []
  pub s_is : s ≡ pattern_term_string asked.s
  pub p_is : p ≡ pattern_term_string asked.p
  pub o_is : o ≡ pattern_term_string asked.o

-- The buffers have the strings of the parsed request, unless memory ran out.
abbrev pub PutsPattern : List ℕ → List ℕ → List ℕ → Result (List Bool) ParseError → Result TermPattern FailedCheck
    → Type 0
PutsPattern s p o (Ok given) read = (asked : TermPattern) × (read ≡ Ok asked) × ArePatternStrings asked given s p o
PutsPattern s p o (Err e) read = Fails e read

-- The result of parsing a line: its request, with the strings in the buffers; or None; or its error, unless memory ran
-- out.
abbrev pub ReturnsRequest : List ℕ → List ℕ → List ℕ → Result (Option (List Bool)) TermFault
    → Result (Option TermPattern) TermFault → Type 0
ReturnsRequest s p o (Ok None) read = read ≡ Ok None
ReturnsRequest s p o (Ok (Some given)) read = (asked : TermPattern) × (read ≡ Ok (Some asked))
    × ArePatternStrings asked given s p o
ReturnsRequest s p o (Err fault) read = (fault ≡ out_of_memory) ⊎ (read ≡ Err fault)
