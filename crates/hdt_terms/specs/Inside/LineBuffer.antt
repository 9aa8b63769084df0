-- The effects of reading into a buffer.
use Rattle.std.specs.Prelude.{◌≡◌, ℕ, ◌+◌, ◌<◌, ◌≤◌, Bool, true, false, ◌⊎◌, List, ◌++◌, length, take, slice_index}
use Rattle.std.specs.Prelude.{Option, None, Some, Result, Ok, Err}
use Rattle.std.specs.Io.KnownBytes.{Consumes, Keeps, IsAtEnd}
use Rattle.hdt_terms.specs.declared.fault.LineReason.{LineReason}
use Rattle.hdt_terms.specs.declared.fault.LineReason.TheVariants.{Read, OutOfMemory, TooLong}
use Rattle.hdt_terms.specs.Chars.{is_line_end}
use Rattle.hdt_terms.specs.Lines.{HasNoLineEnd}

-- new is old followed by what the reader gave.
abbrev pub AppendsInput : List ℕ → List ℕ → Option (List ℕ) → Option (List ℕ) → Type 0
AppendsInput old new before after = (more : List ℕ) × (new ≡ old ++ more) × Consumes before after more

-- The index of the first line end, or None without one.
abbrev pub IsFirstLineEnd : List ℕ → Option ℕ → Type 0
IsFirstLineEnd bytes None = HasNoLineEnd bytes
IsFirstLineEnd bytes (Some n) = (n < length bytes) × (is_line_end (slice_index bytes n) ≡ true)
    × HasNoLineEnd (take n bytes)

-- One read appends n bytes, 0 only at the end of the input. It appends nothing if the reader failed or memory ran out.
abbrev pub ReadOnce : Result ℕ LineReason → List ℕ → List ℕ → Option (List ℕ) → Option (List ℕ) → Type 0
ReadOnce (Ok n) old new before after = AppendsInput old new before after × (length new ≡ length old + n)
    × (n ≡ 0 → IsAtEnd after)
ReadOnce (Err Read) old new before after = (new ≡ old) × Keeps before after
ReadOnce (Err OutOfMemory) old new before after = (new ≡ old) × Keeps before after
ReadOnce (Err other) old new before after = ⊥

-- One read up to a length of most: whether there were more bytes.
abbrev pub ReadMore : Result Bool LineReason → List ℕ → List ℕ → Option (List ℕ) → Option (List ℕ) → ℕ → Type 0
ReadMore (Ok true) old new before after most = AppendsInput old new before after × (length old < length new)
    × (length new ≤ most)
ReadMore (Ok false) old new before after most = AppendsInput old new before after × (new ≡ old) × IsAtEnd after
ReadMore (Err Read) old new before after most = (new ≡ old) × Keeps before after
ReadMore (Err OutOfMemory) old new before after most = (new ≡ old) × Keeps before after
ReadMore (Err TooLong) old new before after most = (new ≡ old) × (length new ≡ most)
    × ((past : List ℕ) × (0 < length past) × Consumes before after past)
ReadMore (Err other) old new before after most = ⊥

-- The first n bytes are the text of a line: its end follows, or the input has ended.
pub record IsFirstLineLength (n : ℕ) (bytes : List ℕ) (after : Option (List ℕ)) : Type 0 where
  pub no_end : HasNoLineEnd (take n bytes)
  pub end : ((n < length bytes) × (is_line_end (slice_index bytes n) ≡ true)) ⊎ ((n ≡ length bytes) × IsAtEnd after)

-- new is old followed by what the reader gave, and the reader gave more.
abbrev pub ExceedsLimit : List ℕ → List ℕ → Option (List ℕ) → Option (List ℕ) → Type 0
ExceedsLimit old new before after = (more : List ℕ) × (past : List ℕ) × (new ≡ old ++ more) × (0 < length past)
    × Consumes before after (more ++ past)

-- Reading until the buffer starts with a complete line of n bytes of text.
abbrev pub BuffersLine : Result ℕ LineReason → List ℕ → List ℕ → Option (List ℕ) → Option (List ℕ) → ℕ → Type 0
BuffersLine (Ok n) old new before after most = AppendsInput old new before after × IsFirstLineLength n new after
    × (length new ≤ most)
BuffersLine (Err Read) old new before after most = AppendsInput old new before after × HasNoLineEnd new
    × (length new ≤ most)
BuffersLine (Err OutOfMemory) old new before after most = AppendsInput old new before after × HasNoLineEnd new
    × (length new ≤ most)
BuffersLine (Err TooLong) old new before after most = ExceedsLimit old new before after × HasNoLineEnd new
    × (length new ≡ most)
BuffersLine (Err other) old new before after most = ⊥

-- The length without the flag that says whether the text is known to be UTF-8.
abbrev pub text_len : Result (ℕ × Bool) LineReason → Result ℕ LineReason
text_len (Ok x) = Ok x.0
text_len (Err reason) = Err reason
