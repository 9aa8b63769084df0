-- What a reader of lines consumes of its remaining input, and its errors.
use Rattle.std.specs.Prelude.{◌≡◌, ℕ, ◌+◌, ◌-◌, ◌^◌, ◌<◌, ◌≤◌, Bool, true, false, List, [], ◌∷◌, ◌++◌, length}
use Rattle.std.specs.Prelude.{slice_index, take, drop, nat_lt, if◌then◌else◌, Option, None, Some, Result, Ok, Err, ◌⊎◌}
use Rattle.std.specs.Prelude.{IsUtf8}
use Rattle.std.specs.Io.KnownBytes.{Consumes, IsAtEnd, prepend_known}
use Rattle.hdt_terms.specs.declared.fault.LineFault.{LineFault}
use Rattle.hdt_terms.specs.declared.fault.LineReason.{LineReason}
use Rattle.hdt_terms.specs.declared.fault.LineReason.TheVariants.{NotUtf8, Read, OutOfMemory, TooLong}
use Rattle.hdt_terms.specs.declared.triple.Triple.{Triple}
use Rattle.hdt_terms.specs.Chars.{is_line_end}
use Rattle.hdt_terms.specs.Inside.LineBuffer.{IsFirstLineLength}
use Rattle.hdt_terms.specs.LineParsing.{LineParseFails, is_blank_or_comment, line_triple, AreTripleStrings}
use Rattle.hdt_terms.specs.Lines.{HasNoLineEnd, Line, LinesWithoutTriples, count_line_ends, ends_in_cr}

-- The state of a reader of lines.
pub record LinesState : Type 0 where
  -- the bytes that were read but not consumed
  pub buffered : List ℕ
  -- the number of bytes and of line ends that were consumed, and whether the last of these bytes is U+000D
  pub taken : ℕ
  pub ends : ℕ
  pub after_cr : Bool
  -- the greatest number of bytes of the input
  pub limit : ℕ
  -- whether the input has ended, and the error that was returned
  pub ended : Bool
  pub failed : Option LineFault

-- The greatest limit of an input in bytes.
abbrev pub max_input_len : ℕ
max_input_len = 2 ^ 63 - 1

-- The initial state: nothing is consumed.
abbrev pub start : ℕ → LinesState
start limit = record {
  buffered = [];
  taken = 0;
  ends = 0;
  after_cr = false;
  limit = limit;
  ended = false;
  failed =
      None;
}

-- The remaining input: the buffer, then what the reader still gives.
abbrev pub unread_input : LinesState → Option (List ℕ) → Option (List ℕ)
unread_input s given = prepend_known s.buffered given

-- A line is buffered with its end: the first line has n bytes of text.
abbrev pub HasBufferedLine : LinesState → Type 0
HasBufferedLine s = (n : ℕ) × (n < length s.buffered) × (is_line_end (slice_index s.buffered n) ≡ true)
    × HasNoLineEnd (take n s.buffered)

-- Consumes the first n bytes and counts them.
abbrev pub take_bytes : LinesState → ℕ → LinesState
take_bytes s n = record s {
  buffered = drop n s.buffered;
  taken = s.taken + n;
  ends =
      s.ends + count_line_ends s.after_cr (take n s.buffered);
  after_cr = ends_in_cr s.after_cr (take n s.buffered);
}

-- Consumes a line of n bytes of text, with its end, or without one at the end of the input.
abbrev pub take_line : LinesState → ℕ → LinesState
take_line s n = if nat_lt n (length s.buffered) then take_bytes s (n + 1) else record (take_bytes s n) { ended = true }

-- These bytes of the input were consumed and counted.
pub record Takes (old new : LinesState) (before after : Option (List ℕ)) (bytes : List ℕ) : Type 0 where
  pub consumed : Consumes before after bytes
  pub taken : new.taken ≡ old.taken + length bytes
  pub ends : new.ends ≡ old.ends + count_line_ends old.after_cr bytes
  pub after_cr : new.after_cr ≡ ends_in_cr old.after_cr bytes
  pub within : new.taken + length new.buffered ≤ new.limit
  pub limit : new.limit ≡ old.limit
  pub failed : new.failed ≡ old.failed

-- The bytes are a line of this text: the text and its end, or the text at the end of the input, if nothing is left.
abbrev pub IsTakenLineText : List ℕ → List ℕ → LinesState → Option (List ℕ) → Type 0
IsTakenLineText text bytes new after = HasNoLineEnd text
    × (((e : ℕ) × (is_line_end e ≡ true) × (bytes ≡ text ++ e ∷ []) × (new.ended ≡ false))
    ⊎ ((bytes ≡ text) × (new.ended ≡ true) × (new.buffered ≡ []) × IsAtEnd after))

-- The bytes are one line, with this triple or none.
abbrev pub IsTakenLine : List ℕ → Option Triple → LinesState → Option (List ℕ) → Type 0
IsTakenLine bytes x new after = (text : List ℕ) × Line text x × IsTakenLineText text bytes new after

-- ---- errors

-- The remaining input starts with a complete line of this text; its end, or that of the input, is within the limit.
abbrev pub BeginsWithLine : ℕ → ℕ → Option (List ℕ) → List ℕ → Type 0
BeginsWithLine taken limit before text = (after : Option (List ℕ))
    × (((e : ℕ) × (is_line_end e ≡ true) × Consumes before after (text ++ e ∷ []) × (taken + length text < limit))
    ⊎ (Consumes before after text × IsAtEnd after × (taken + length text ≤ limit)))

-- A complete line in which the first check that fails has this reason and column.
abbrev pub IsLineTextError : LineReason → ℕ → ℕ → ℕ → Option (List ℕ) → Type 0
IsLineTextError reason column taken limit before = (text : List ℕ) × HasNoLineEnd text
    × LineParseFails text (record { column = column; reason = reason }) × BeginsWithLine taken limit before text

-- What the reader gave of the remaining input has no line end and is within the limit.
abbrev pub IsUnterminated : ℕ → ℕ → Option (List ℕ) → Option (List ℕ) → Type 0
IsUnterminated taken limit before given = (text : List ℕ) × HasNoLineEnd text × Consumes before given text
    × (taken + length text ≤ limit)

-- The remaining input starts with a complete line that is not blank and not a comment.
abbrev pub BeginsWithNonblankLine : ℕ → ℕ → Option (List ℕ) → Type 0
BeginsWithNonblankLine taken limit before = (text : List ℕ) × HasNoLineEnd text × (is_blank_or_comment text ≡ false)
    × BeginsWithLine taken limit before text

-- The error of the line that starts after taken bytes; given is the input that the reader has left after the error.
-- Read: what the reader gave has no line end. TooLong: the line has no end within the limit, and more follows.
-- OutOfMemory: the line's end was not read yet, or the line is complete and not blank.
abbrev pub IsLineError : LineReason → ℕ → ℕ → ℕ → Option (List ℕ) → Option (List ℕ) → Type 0
IsLineError Read column taken limit before given = (column ≡ 0) × IsUnterminated taken limit before given
IsLineError TooLong column taken limit before given = (column ≡ 0)
    × ((text : List ℕ) × (past : List ℕ) × HasNoLineEnd text × (0 < length past) × (taken + length text ≡ limit)
    × Consumes before given (text ++ past))
IsLineError OutOfMemory column taken limit before given = (column ≡ 0)
    × (IsUnterminated taken limit before given ⊎ BeginsWithNonblankLine taken limit before)
IsLineError reason column taken limit before given = IsLineTextError reason column taken limit before

-- The error of the line after lines without a triple; its number counts on from what was consumed.
pub record IsNextTripleError (fault : LineFault) (old : LinesState) (before given : Option (List ℕ)) : Type 0 where
  pub front : List ℕ
  pub rest : Option (List ℕ)
  pub without_triples : LinesWithoutTriples front
  pub consumed : Consumes before rest front
  pub line : fault.line ≡ old.ends + count_line_ends old.after_cr front + 1
  pub fault_is : IsLineError fault.reason fault.column (old.taken + length front) old.limit rest given

-- The number of the last line that was consumed.
abbrev pub line_number : LinesState → ℕ
line_number s = if s.ended then s.ends + 1 else s.ends

-- ---- results

-- Lines without a triple were consumed, then the line of the triple.
abbrev pub TakesTriple : LinesState → LinesState → Option (List ℕ) → Option (List ℕ) → Triple → Type 0
TakesTriple old new before after triple = (front : List ℕ) × (bytes : List ℕ)
    × Takes old new before after (front ++ bytes) × LinesWithoutTriples front
    × IsTakenLine bytes (Some triple) new after

-- The input has ended, and the remaining input was a document without triples.
abbrev pub TakesRest : LinesState → LinesState → Option (List ℕ) → Option (List ℕ) → Type 0
TakesRest old new before after = (front : List ℕ) × (last : List ℕ) × Takes old new before after (front ++ last)
    × LinesWithoutTriples front × Line last None × HasNoLineEnd last × (new.ended ≡ true) × (new.buffered ≡ [])
    × IsAtEnd after

-- The next triple, the end, or the first error.
abbrev pub ReturnsNextTriple : Result (Option Triple) LineFault → LinesState → LinesState → Option (List ℕ)
    → Option (List ℕ) → Option (List ℕ) → Type 0
ReturnsNextTriple (Ok None) old new before after given = TakesRest old new before after
ReturnsNextTriple (Ok (Some triple)) old new before after given = TakesTriple old new before after triple
ReturnsNextTriple (Err fault) old new before after given = IsNextTripleError fault old before given

-- The next triple, with its strings in three buffers, the end, or the first error.
abbrev pub ReturnsNextStrings : Result Bool LineFault → List ℕ → List ℕ → List ℕ → LinesState → LinesState
    → Option (List ℕ) → Option (List ℕ) → Option (List ℕ) → Type 0
ReturnsNextStrings (Ok true) s p o old new before after given = (triple : Triple) × AreTripleStrings triple s p o
    × TakesTriple old new before after triple
ReturnsNextStrings (Ok false) s p o old new before after given = TakesRest old new before after
ReturnsNextStrings (Err fault) s p o old new before after given = IsNextTripleError fault old before given

-- Without a triple the buffers are empty.
abbrev pub StringsClearedUnlessFound : Result Bool LineFault → List ℕ → List ℕ → List ℕ → Type 0
StringsClearedUnlessFound (Ok true) s p o = Unit {0}
StringsClearedUnlessFound (Ok false) s p o = (s ≡ []) × (p ≡ []) × (o ≡ [])
StringsClearedUnlessFound (Err fault) s p o = (s ≡ []) × (p ≡ []) × (o ≡ [])

-- ---- within a call

-- The buffer starts with a line that is not blank and not consumed.
pub record IsTripleLineReady (n : ℕ) (s : LinesState) (given : Option (List ℕ)) : Type 0 where
  pub front : IsFirstLineLength n s.buffered given
  pub utf8 : IsUtf8 (take n s.buffered)
  pub triple : is_blank_or_comment (take n s.buffered) ≡ false
  pub going : s.ended ≡ false

-- Lines without a triple were consumed, up to a line with one, the end or an error.
abbrev pub FindsTripleLine : Result (Option ℕ) LineFault → LinesState → LinesState → Option (List ℕ) → Option (List ℕ)
    → Option (List ℕ) → Type 0
FindsTripleLine (Ok None) old new before after given = TakesRest old new before after
FindsTripleLine (Ok (Some n)) old new before after given = (front : List ℕ) × Takes old new before after front
    × LinesWithoutTriples front × IsTripleLineReady n new given
FindsTripleLine (Err fault) old new before after given = IsNextTripleError fault old before given

-- Whether the line has no triple, or its error.
abbrev pub ChecksLine : Result Bool LineFault → LinesState → List ℕ → Type 0
ChecksLine (Ok true) s text = Line text None
ChecksLine (Ok false) s text = IsUtf8 text × (is_blank_or_comment text ≡ false)
ChecksLine (Err fault) s text = (fault.line ≡ s.ends + 1) × (fault.reason ≡ NotUtf8)
    × LineParseFails text (record { column = fault.column; reason = NotUtf8 })

-- The error of a line that is not blank, or out of memory.
abbrev pub IsTripleLineError : LineReason → ℕ → List ℕ → Type 0
IsTripleLineError OutOfMemory column text = column ≡ 0
IsTripleLineError Read column text = ⊥
IsTripleLineError TooLong column text = ⊥
IsTripleLineError reason column text = line_triple text ≡ Err (record { column = column; reason = reason })

-- The triple of a line that is not blank, or its error.
abbrev pub ParsesTriple : Result Triple LineFault → LinesState → List ℕ → Type 0
ParsesTriple (Ok triple) s text = line_triple text ≡ Ok triple
ParsesTriple (Err fault) s text = (fault.line ≡ s.ends + 1) × IsTripleLineError fault.reason fault.column text

abbrev pub ParsesTripleStrings : Result (Unit {0}) LineFault → List ℕ → List ℕ → List ℕ → LinesState → List ℕ → Type 0
ParsesTripleStrings (Ok done) s p o state text = (triple : Triple) × (line_triple text ≡ Ok triple)
    × AreTripleStrings triple s p o
ParsesTripleStrings (Err fault) s p o state text = (fault.line ≡ state.ends + 1)
    × IsTripleLineError fault.reason fault.column text
