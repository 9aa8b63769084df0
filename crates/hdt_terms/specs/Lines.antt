-- Lines and documents (W3C RDF 1.1 N-Triples, section 7, productions ntriplesDoc, triple and EOL).
use Rattle.std.specs.Prelude.{◌≡◌, ℕ, ◌+◌, false, true, Bool, List, [], ◌∷◌, ◌++◌, ◌&&◌, ◌||◌, not, ◌==◌, if◌then◌else◌}
use Rattle.std.specs.Prelude.{Option, None, Some, All, IsUtf8}
use Rattle.std.specs.List.{filter_map}
use Rattle.hdt_terms.specs.declared.triple.Term.{Term}
use Rattle.hdt_terms.specs.declared.triple.Term.TheVariants as terms
use Rattle.hdt_terms.specs.declared.triple.Triple.{Triple}
use Rattle.hdt_terms.specs.Chars.{is_line_end}
use Rattle.hdt_terms.specs.Grammar.{IsWhitespace, Encodes}

-- The text has no line end.
abbrev pub HasNoLineEnd : List ℕ → Type 0
HasNoLineEnd text = All (λ c. is_line_end c ≡ false) text

-- Empty, or a comment: # and any text.
abbrev pub IsCommentOrEnd : List ℕ → Type 0
IsCommentOrEnd [] = Unit {0}
IsCommentOrEnd (c ∷ rest) = c ≡ 35

-- Whitespace and an optional comment: a line without a triple, or what may follow a triple.
pub record IsBlankOrComment (text : List ℕ) : Type 0 where
  pub before : List ℕ
  pub comment : List ℕ
  pub whitespace : IsWhitespace before
  pub comment_is : IsCommentOrEnd comment
  pub whole : text ≡ before ++ comment

-- A subject is an IRI or a blank node.
abbrev pub IsSubject : Term → Type 0
IsSubject (terms.Iri iri) = Unit {0}
IsSubject (terms.Blank label) = Unit {0}
IsSubject (terms.Literal text suffix) = ⊥

-- A predicate is an IRI.
abbrev pub IsPredicate : Term → Type 0
IsPredicate (terms.Iri iri) = Unit {0}
IsPredicate (terms.Blank label) = ⊥
IsPredicate (terms.Literal text suffix) = ⊥

-- Subject, predicate, object and a full stop, each after optional whitespace, then whitespace and an optional comment.
pub record EncodesTriple (text : List ℕ) (triple : Triple) : Type 0 where
  pub before_s : List ℕ
  pub before_p : List ℕ
  pub before_o : List ℕ
  pub before_stop : List ℕ
  pub whitespace : IsWhitespace before_s × IsWhitespace before_p × IsWhitespace before_o × IsWhitespace before_stop
  pub s : List ℕ
  pub p : List ℕ
  pub o : List ℕ
  pub behind : List ℕ
  pub subject : Encodes s triple.s × IsSubject triple.s
  pub predicate : Encodes p triple.p × IsPredicate triple.p
  pub object : Encodes o triple.o
  pub trailing : IsBlankOrComment behind
  pub whole : text ≡ before_s ++ (s ++ (before_p ++ (p ++ (before_o ++ (o ++ (before_stop ++ 46 ∷ behind))))))

-- The text is a line, without its end, with this triple or none.
abbrev pub Line : List ℕ → Option Triple → Type 0
Line text None = IsUtf8 text × IsBlankOrComment text
Line text (Some triple) = IsUtf8 text × EncodesTriple text triple

-- The bytes are lines with these triples or none, each with its end.
abbrev pub TerminatedLines : List (Option Triple) → List ℕ → Type 0
TerminatedLines [] bytes = bytes ≡ []
TerminatedLines (x ∷ xs) bytes = (text : List ℕ) × (e : ℕ) × (rest : List ℕ) × (bytes ≡ text ++ e ∷ rest)
    × (is_line_end e ≡ true) × HasNoLineEnd text × Line text x × TerminatedLines xs rest

-- The triples of the lines that have one.
abbrev pub triples_of_lines : List (Option Triple) → List Triple
triples_of_lines xs = filter_map (λ x. x) xs

-- The bytes are a document of these triples: lines with their ends, and a last line without one, which may be empty.
pub record Document (bytes : List ℕ) (triples : List Triple) : Type 0 where
  pub front : List ℕ
  pub last : List ℕ
  pub lines : List (Option Triple)
  pub last_line : Option Triple
  pub cut : bytes ≡ front ++ last
  pub ended : TerminatedLines lines front
  pub no_end : HasNoLineEnd last
  pub is_line : Line last last_line
  pub triples_are : triples ≡ triples_of_lines (lines ++ last_line ∷ [])

-- Lines without a triple, each with its end.
pub record LinesWithoutTriples (bytes : List ℕ) : Type 0 where
  pub lines : List (Option Triple)
  pub ended : TerminatedLines lines bytes
  pub no_triples : triples_of_lines lines ≡ []

-- The number of line ends, U+000D U+000A being one; cr says whether the byte before the bytes is U+000D.
abbrev pub count_line_ends : Bool → List ℕ → ℕ
count_line_ends cr [] = 0
count_line_ends cr (b ∷ bs) = (if b == 13 || (b == 10 && not cr) then 1 else 0) + count_line_ends (b == 13) bs

-- Whether the last byte is U+000D.
abbrev pub ends_in_cr : Bool → List ℕ → Bool
ends_in_cr cr [] = cr
ends_in_cr cr (b ∷ bs) = ends_in_cr (b == 13) bs
