-- Lines that request triples: subject, predicate and object, each a term as in a triple, or ? for any.
use Rattle.std.specs.Prelude.{◌≡◌, ℕ, List, [], ◌∷◌, ◌++◌, ◌⊎◌, Option, None, Some, IsUtf8}
use Rattle.hdt_terms.specs.declared.triple.Term.{Term}
use Rattle.hdt_terms.specs.declared.triple.Triple.{Triple}
use Rattle.hdt_terms.specs.Lines.{IsBlankOrComment, IsSubject, IsPredicate}
use Rattle.hdt_terms.specs.Grammar.{IsWhitespace, Encodes}

-- A triple pattern: each of subject, predicate and object is a term or any.
pub record TermPattern : Type 0 where
  pub s : Option Term
  pub p : Option Term
  pub o : Option Term

-- The pattern with all three terms of a triple.
abbrev pub pattern_of_triple : Triple → TermPattern
pattern_of_triple triple = record { s = Some triple.s; p = Some triple.p; o = Some triple.o }

-- ? for any, or the encoding of a term that satisfies IsOf.
abbrev pub EncodesPatternTerm : (Term → Type 0) → List ℕ → Option Term → Type 0
EncodesPatternTerm IsOf text None = text ≡ 63 ∷ []
EncodesPatternTerm IsOf text (Some term) = Encodes text term × IsOf term

-- Any term may be an object.
abbrev pub IsObject : Term → Type 0
IsObject term = Unit {0}

-- An optional full stop.
abbrev pub IsOptionalStop : List ℕ → Type 0
IsOptionalStop text = (text ≡ []) ⊎ (text ≡ 46 ∷ [])

-- Subject, predicate, object and an optional full stop, each after optional whitespace, then whitespace and an optional
-- comment.
pub record EncodesRequest (text : List ℕ) (asked : TermPattern) : Type 0 where
  pub before_s : List ℕ
  pub before_p : List ℕ
  pub before_o : List ℕ
  pub before_stop : List ℕ
  pub whitespace : IsWhitespace before_s × IsWhitespace before_p × IsWhitespace before_o × IsWhitespace before_stop
  pub s : List ℕ
  pub p : List ℕ
  pub o : List ℕ
  pub stop : List ℕ
  pub behind : List ℕ
  pub subject : EncodesPatternTerm IsSubject s asked.s
  pub predicate : EncodesPatternTerm IsPredicate p asked.p
  pub object : EncodesPatternTerm IsObject o asked.o
  pub is_stop : IsOptionalStop stop
  pub trailing : IsBlankOrComment behind
  pub whole : text ≡ before_s ++ (s ++ (before_p ++ (p ++ (before_o ++ (o ++ (before_stop ++ (stop ++ behind)))))))

-- The text is a line, without its end, that requests this pattern or nothing.
abbrev pub RequestLine : List ℕ → Option TermPattern → Type 0
RequestLine text None = IsUtf8 text × IsBlankOrComment text
RequestLine text (Some asked) = IsUtf8 text × EncodesRequest text asked
