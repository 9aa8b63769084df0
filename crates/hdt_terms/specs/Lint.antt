-- Checking every line of a document: the reports of the faulty lines, and the bytes of the others.
use Rattle.std.specs.Prelude.{◌≡◌, ℕ, ◌+◌, ◌-◌, ◌<◌, ◌^◌, ◌==◌, ◌⊎◌, if◌then◌else◌, Bool, true, false, List, []}
use Rattle.std.specs.Prelude.{◌∷◌, ◌++◌}
use Rattle.std.specs.Prelude.{length, min, take, drop, Option, None, Some, Result, Ok, Err, codes, option_map, nat_lt}
use Rattle.std.specs.Fmt.{decimal}
use Rattle.std.specs.Io.KnownBytes.{Appends}
use Rattle.std.specs.List.{filter_map, flat_map}
use Rattle.hdt_terms.specs.declared.fault.LineFault.{LineFault}
use Rattle.hdt_terms.specs.declared.fault.TermFault.{TermFault}
use Rattle.hdt_terms.specs.declared.lint.LintFault.{LintFault}
use Rattle.hdt_terms.specs.declared.lint.LintFault.TheVariants as faults
use Rattle.hdt_terms.specs.declared.fault.LineReason.TheVariants.{Read, TooLong}
use Rattle.hdt_terms.specs.Documents.{AreDocumentLines, BeginsWithLines, DocumentLine, FaultAfterDocumentLines}
use Rattle.hdt_terms.specs.LineParsing.{line_in}
use Rattle.hdt_terms.specs.Reasons.{line_reason_number, line_reason_name}

-- ---- the errors of lines

abbrev pub fault_of : {A : Type 0} → Result A TermFault → Option TermFault
fault_of (Ok x) = None
fault_of (Err fault) = Some fault

-- The first error of the text of a line, if it has one.
abbrev pub text_fault : List ℕ → Option TermFault
text_fault text = fault_of (line_in text)

-- The first error of the text of a line that may have up to `longest` bytes: a longer one is too long, whatever it has.
abbrev pub text_fault_within : ℕ → List ℕ → Option TermFault
text_fault_within longest text =
    if nat_lt longest (length text) then Some (record { column = longest + 1; reason = TooLong }) else text_fault text

abbrev pub at_line : ℕ → TermFault → LineFault
at_line n fault = record { line = n; column = fault.column; reason = fault.reason }

-- The first error of a line, if it has one.
abbrev pub fault_of_line : DocumentLine → Option LineFault
fault_of_line line = option_map (at_line line.number) (text_fault line.text)

-- The errors of the lines that have one, in order.
abbrev pub faulty_lines : List DocumentLine → List LineFault
faulty_lines lines = filter_map fault_of_line lines

-- The same for lines that may have up to `longest` bytes of text.
abbrev pub fault_of_line_within : ℕ → DocumentLine → Option LineFault
fault_of_line_within longest line = option_map (at_line line.number) (text_fault_within longest line.text)

abbrev pub faulty_lines_within : ℕ → List DocumentLine → List LineFault
faulty_lines_within longest lines = filter_map (fault_of_line_within longest) lines

-- ---- the output

-- The report of an error.
abbrev pub fault_report : LineFault → List ℕ
fault_report fault = codes "line " ++ decimal fault.line ++ codes " column " ++ decimal fault.column ++ codes ": "
    ++ decimal (line_reason_number fault.reason) ++ codes " " ++ line_reason_name fault.reason ++ codes "\n"

abbrev pub report_if_faulty : Option LineFault → List ℕ
report_if_faulty None = []
report_if_faulty (Some fault) = fault_report fault

-- The reports of the errors of lines.
abbrev pub fault_reports : ℕ → List DocumentLine → List ℕ
fault_reports longest lines = flat_map (λ line. report_if_faulty (fault_of_line_within longest line)) lines

-- The number of the last faulty line: this line, or the one before.
abbrev pub last_faulty : ℕ → Option LineFault → ℕ
last_faulty before None = before
last_faulty before (Some fault) = fault.line

-- The number of the last faulty line; before is that of the lines before.
abbrev pub last_faulty_of : ℕ → ℕ → List DocumentLine → ℕ
last_faulty_of longest before [] = before
last_faulty_of longest before (line ∷ lines) =
    last_faulty_of longest (last_faulty before (fault_of_line_within longest line)) lines

-- A line is kept with its end, unless it is the last faulty one.
abbrev pub kept_line : ℕ → DocumentLine → List ℕ
kept_line faulty line = if faulty == line.number then [] else line.text ++ line.end

-- The line if it is kept; nothing if no lines are.
abbrev pub kept_if : Bool → ℕ → DocumentLine → List ℕ
kept_if false faulty line = []
kept_if true faulty line = kept_line faulty line

-- The line of these bytes, of which the first n are its text.
abbrev pub numbered : ℕ → ℕ → List ℕ → DocumentLine
numbered number n bytes = record { number = number; text = take n bytes; end = drop n bytes }

-- The lines without an error, with their ends. U+000A after U+000D has the number of its line, so it goes with it.
abbrev pub lines_without_faults : ℕ → ℕ → List DocumentLine → List ℕ
lines_without_faults longest before [] = []
lines_without_faults longest before (line ∷ lines) =
    kept_line (last_faulty before (fault_of_line_within longest line)) line
    ++ lines_without_faults longest (last_faulty before (fault_of_line_within longest line)) lines

-- With `keep`, the lines without an error, byte for byte; else nothing.
abbrev pub kept_lines : ℕ → Bool → List DocumentLine → List ℕ
kept_lines longest false lines = []
kept_lines longest true lines = lines_without_faults longest 0 lines

-- ---- what the writers have gained

-- A writer has gained the text but for its last bytes, `more`.
abbrev pub GainsAllBut : Option (List ℕ) → Option (List ℕ) → List ℕ → List ℕ → Type 0
GainsAllBut before after text more = (part : List ℕ) × (text ≡ part ++ more) × Appends before after part

-- A writer has gained n bytes; 2^64 - 1 stands for this number and all greater ones.
abbrev pub GainsBytes : ℕ → Option (List ℕ) → Option (List ℕ) → Type 0
GainsBytes n before after = (part : List ℕ) × Appends before after part × (n ≡ min (length part) (2 ^ 64 - 1))

-- A writer has gained a prefix of the text.
abbrev pub GainsPrefix : Option (List ℕ) → Option (List ℕ) → List ℕ → Type 0
GainsPrefix before after text = (more : List ℕ) × GainsAllBut before after text more

-- ---- complete and interrupted runs

-- All lines of the input, or its first lines up to the last of `most` faulty ones, were checked: n are faulty, among
-- them those of more than `longest` bytes, and the two writers have gained the kept lines and the reports. Before the
-- last of these lines fewer than `most` are faulty.
pub record LintsInput (longest : ℕ) (keep : Bool) (most : ℕ)
    (input kept_before kept_after reported_before reported_after : Option (List ℕ)) (n : ℕ) : Type 0 where
  pub lines : List DocumentLine
  pub are : AreDocumentLines input lines ⊎ ((n ≡ most) × BeginsWithLines input lines)
  pub count : n ≡ length (faulty_lines_within longest lines)
  pub fewer : (before : List DocumentLine) (last : DocumentLine) → lines ≡ before ++ last ∷ []
      → length (faulty_lines_within longest before) < most
  pub kept : Appends kept_before kept_after (kept_lines longest keep lines)
  pub reported : Appends reported_before reported_after (fault_reports longest lines)

-- The reader failed.
abbrev pub IsReadFault : LintFault → Type 0
IsReadFault (faults.Line fault) = fault.reason ≡ Read
IsReadFault fault = ⊥

-- If a line could not be read, these are the lines before it.
abbrev pub FollowsDocumentLines : LintFault → Option (List ℕ) → Option (List ℕ) → List DocumentLine → Type 0
FollowsDocumentLines (faults.Line fault) input given lines = FaultAfterDocumentLines fault input given lines
FollowsDocumentLines fault input given lines = Unit {0}

-- An error ended the run after some lines: the two writers have gained a prefix of the kept lines and of the reports.
-- If a line could not be read, these are all lines before it; `given` is what the reader still yields after it.
pub record LintsUntilFault (longest : ℕ) (keep : Bool)
    (input given kept_before kept_after reported_before reported_after : Option (List ℕ))
    (fault : LintFault) : Type 0 where
  pub lines : List DocumentLine
  pub are : BeginsWithLines input lines
  pub behind : FollowsDocumentLines fault input given lines
  pub kept : GainsPrefix kept_before kept_after (kept_lines longest keep lines)
  pub reported : GainsPrefix reported_before reported_after (fault_reports longest lines)
