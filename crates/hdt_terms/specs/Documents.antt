-- What reading a complete input gives: its triples or its lines, or its first error.
use Rattle.std.specs.Prelude.{◌≡◌, ℕ, ◌+◌, ◌≤◌, ◌==◌, if◌then◌else◌, Bool, false, List, [], ◌∷◌, ◌++◌, length, map}
use Rattle.std.specs.Prelude.{Option, None, Some, ⊤}
use Rattle.std.specs.Io.KnownBytes.{Consumes}
use Rattle.hdt_terms.specs.declared.fault.LineFault.{LineFault}
use Rattle.hdt_terms.specs.declared.triple.Triple.{Triple}
use Rattle.hdt_terms.specs.Chars.{is_line_end}
use Rattle.hdt_terms.specs.Lines.{TerminatedLines, Document, triples_of_lines, count_line_ends, ends_in_cr}
use Rattle.hdt_terms.specs.LinesReader.{LinesState, max_input_len, start, Takes, IsLineError}
use Rattle.hdt_terms.specs.LinesTexts.{IsUnreadLineError}

-- The input is a document of these triples within the limit. Nothing is claimed for a reader of unknown bytes.
abbrev pub IsDocumentInput : ℕ → Option (List ℕ) → List Triple → Type 0
IsDocumentInput limit None triples = ⊤
IsDocumentInput limit (Some bytes) triples = Document bytes triples × (length bytes ≤ limit)

-- The fault is the error of the input: it follows lines with their ends, and its line counts from the input's first.
-- given is the input that the reader has left after the error.
pub record FaultInDocument (fault : LineFault) (limit : ℕ) (input given : Option (List ℕ)) : Type 0 where
  pub front : List ℕ
  pub lines : List (Option Triple)
  pub rest : Option (List ℕ)
  pub ended : TerminatedLines lines front
  pub consumed : Consumes input rest front
  pub line : fault.line ≡ count_line_ends false front + 1
  pub fault_is : IsLineError fault.reason fault.column (length front) limit rest given

-- The triples of the lines that were consumed, each with its end; left is the remaining input.
pub record TriplesSoFar (limit : ℕ) (s : LinesState) (input left : Option (List ℕ))
    (triples : List Triple) : Type 0 where
  pub front : List ℕ
  pub lines : List (Option Triple)
  pub ended : TerminatedLines lines front
  pub takes : Takes (start limit) s input left front
  pub triples_are : triples ≡ triples_of_lines lines

-- ---- the lines of an input

-- A line of a document: its number from 1, its text, and its end: U+000A or U+000D, or nothing for the last line.
pub record DocumentLine : Type 0 where
  pub number : ℕ
  pub text : List ℕ
  pub end : List ℕ

-- Adds a byte before the first text.
abbrev pub prepend_to_first_text : ℕ → List DocumentLine → List DocumentLine
prepend_to_first_text b [] = []
prepend_to_first_text b (line ∷ lines) = record line { text = b ∷ line.text } ∷ lines

-- The lines of the bytes. ends is the number of line ends before the bytes; cr says whether the byte before them is
-- U+000D. Between U+000D and U+000A is an empty text with the number of the line before.
abbrev pub document_lines : Bool → ℕ → List ℕ → List DocumentLine
document_lines cr ends [] = record { number = ends + 1; text = []; end = [] } ∷ []
document_lines cr ends (b ∷ bs) =
    if is_line_end b then record { number = ends + count_line_ends cr (b ∷ []); text = []; end = b ∷ [] }
    ∷ document_lines (b == 13) (ends + count_line_ends cr (b ∷ [])) bs
    else prepend_to_first_text b (document_lines false ends bs)

-- The number and the text of each line.
abbrev pub numbered_lines : Bool → ℕ → List ℕ → List (ℕ × List ℕ)
numbered_lines cr ends bs = map (λ (line : DocumentLine). (line.number, line.text)) (document_lines cr ends bs)

-- These are the lines of the input. Nothing is claimed for a reader of unknown bytes.
abbrev pub AreDocumentLines : Option (List ℕ) → List DocumentLine → Type 0
AreDocumentLines None lines = ⊤
AreDocumentLines (Some bytes) lines = document_lines false 0 bytes ≡ lines

-- The lines of the input begin with these.
abbrev pub BeginsWithLines : Option (List ℕ) → List DocumentLine → Type 0
BeginsWithLines None lines = ⊤
BeginsWithLines (Some bytes) lines = (more : List DocumentLine) × (document_lines false 0 bytes ≡ lines ++ more)

-- These are the numbers and texts of the lines of the input, within the limit.
abbrev pub AreLines : ℕ → Option (List ℕ) → List (ℕ × List ℕ) → Type 0
AreLines limit None lines = ⊤
AreLines limit (Some bytes) lines = (lines ≡ numbered_lines false 0 bytes) × (length bytes ≤ limit)

-- The numbers and texts of the lines that were consumed, each with its end; left is the remaining input.
pub record LinesSoFar (limit : ℕ) (s : LinesState) (input left : Option (List ℕ))
    (lines : List (ℕ × List ℕ)) : Type 0 where
  pub front : List ℕ
  pub takes : Takes (start limit) s input left front
  pub lines_are : (rest : List ℕ)
      → numbered_lines false 0 (front ++ rest) ≡ lines ++ numbered_lines s.after_cr s.ends rest

-- The bytes are these lines, each with its end, whatever follows. cut divides bytes into lines.
abbrev pub AreEndedLines : {A : Type 0} → (Bool → ℕ → List ℕ → List A) → List ℕ → List A → Type 0
AreEndedLines cut front lines = (rest : List ℕ)
    → cut false 0 (front ++ rest) ≡ lines ++ cut (ends_in_cr false front) (count_line_ends false front) rest

-- The fault is the error of the line after these, which are all lines with an end before it. given is the input that
-- the reader has left after the error.
pub record FaultAfterEndedLines {A : Type 0} (cut : Bool → ℕ → List ℕ
    → List A) (fault : LineFault) (limit : ℕ) (input given : Option (List ℕ)) (lines : List A) : Type 0 where
  pub front : List ℕ
  pub left : Option (List ℕ)
  pub consumed : Consumes input left front
  pub lines_are : AreEndedLines cut front lines
  pub line : fault.line ≡ count_line_ends false front + 1
  pub column : fault.column ≡ 0
  pub fault_is : IsUnreadLineError fault.reason (length front) limit left given

abbrev pub FaultAfterLines : LineFault → ℕ → Option (List ℕ) → Option (List ℕ) → List (ℕ × List ℕ) → Type 0
FaultAfterLines fault limit input given lines = FaultAfterEndedLines numbered_lines fault limit input given lines

abbrev pub FaultAfterDocumentLines : LineFault → Option (List ℕ) → Option (List ℕ) → List DocumentLine → Type 0
FaultAfterDocumentLines fault input given lines =
    FaultAfterEndedLines document_lines fault max_input_len input given lines
