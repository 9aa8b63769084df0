-- The texts of lines, valid or not, that a reader of lines consumes of its remaining input.
use Rattle.std.specs.Prelude.{◌≡◌, ℕ, ◌+◌, ◌≤◌, Bool, true, false, List, [], ◌∷◌, ◌++◌, length, take, Option, Result}
use Rattle.std.specs.Prelude.{Ok, Err, if◌then◌else◌}
use Rattle.hdt_terms.specs.declared.fault.LineFault.{LineFault}
use Rattle.hdt_terms.specs.declared.fault.LineReason.{LineReason}
use Rattle.hdt_terms.specs.declared.fault.LineReason.TheVariants.{Read, OutOfMemory, TooLong}
use Rattle.hdt_terms.specs.LinesReader.{LinesState, Takes, IsTakenLineText, IsLineError}

-- One line of this text was consumed.
abbrev pub TakesText : LinesState → LinesState → Option (List ℕ) → Option (List ℕ) → List ℕ → Type 0
TakesText old new before after text = (bytes : List ℕ) × Takes old new before after bytes
    × IsTakenLineText text bytes new after

-- One line was consumed: these bytes, of which the first n are its text.
pub record TakesWholeLine (n : ℕ) (old new : LinesState) (before after : Option (List ℕ))
    (bytes : List ℕ) : Type 0 where
  pub takes : Takes old new before after bytes
  pub is : IsTakenLineText (take n bytes) bytes new after
  pub within : n ≤ length bytes

-- One line was consumed, and front has the first most bytes of its text.
abbrev pub TakesLinePrefix : ℕ → LinesState → LinesState → Option (List ℕ) → Option (List ℕ) → List ℕ → Type 0
TakesLinePrefix most old new before after front = (text : List ℕ) × TakesText old new before after text
    × (front ≡ take most text)

-- The end of the line that was consumed last: nothing if the input ended there.
abbrev pub last_end : LinesState → List ℕ
last_end s = if s.ended then [] else if s.after_cr then 13 ∷ [] else 10 ∷ []

-- One line was consumed: bytes has the first n bytes of its text, at most `most`, and its end.
pub record TakesLineStart (most n : ℕ) (old new : LinesState) (before after : Option (List ℕ))
    (bytes : List ℕ) : Type 0 where
  pub text : List ℕ
  pub end : List ℕ
  pub takes : Takes old new before after (text ++ end)
  pub is : IsTakenLineText text (text ++ end) new after
  pub len : n ≡ length (take most text)
  pub bytes_are : bytes ≡ take most text ++ end

-- The text of the line that starts after taken bytes is unavailable: reading failed, it is too long, or memory ran out.
abbrev pub IsUnreadLineError : LineReason → ℕ → ℕ → Option (List ℕ) → Option (List ℕ) → Type 0
IsUnreadLineError Read taken limit before given = IsLineError Read 0 taken limit before given
IsUnreadLineError TooLong taken limit before given = IsLineError TooLong 0 taken limit before given
IsUnreadLineError OutOfMemory taken limit before given = Unit {0}
IsUnreadLineError reason taken limit before given = ⊥

-- The error of the next line.
pub record IsNextLineError (fault : LineFault) (old : LinesState) (before given : Option (List ℕ)) : Type 0 where
  pub line : fault.line ≡ old.ends + 1
  pub column : fault.column ≡ 0
  pub fault_is : IsUnreadLineError fault.reason old.taken old.limit before given

-- The first most bytes of the next line's text, or the error of that line; never the end, as the last line is returned
-- too.
abbrev pub ReturnsNextPrefix : Result Bool LineFault → ℕ → List ℕ → LinesState → LinesState → Option (List ℕ)
    → Option (List ℕ) → Option (List ℕ) → Type 0
ReturnsNextPrefix (Ok true) most front old new before after given = TakesLinePrefix most old new before after front
ReturnsNextPrefix (Ok false) most front old new before after given = ⊥
ReturnsNextPrefix (Err fault) most front old new before after given = IsNextLineError fault old before given

-- Without a line the buffer is empty.
abbrev pub TextClearedUnlessFound : Result Bool LineFault → List ℕ → Type 0
TextClearedUnlessFound (Ok true) text = Unit {0}
TextClearedUnlessFound (Ok false) text = text ≡ []
TextClearedUnlessFound (Err fault) text = text ≡ []
