-- Splitting a document by the subjects of its triples: the lines of each part.
use Rattle.std.specs.Prelude.{◌≡◌, ℕ, ◌-◌, ◌<◌, take, ◌==◌, ◌||◌, ◌&&◌, ◌⊎◌, if◌then◌else◌, Bool, false, List, [], ◌∷◌}
use Rattle.std.specs.Prelude.{◌+◌, ◌++◌, length, get_or, set, Option, None, Some, Result, Ok, Err}
use Rattle.std.specs.Io.KnownBytes.{Appends}
use Rattle.std.specs.List.{filter_map}
use Rattle.hdt_terms.specs.declared.fault.LineFault.{LineFault}
use Rattle.hdt_terms.specs.declared.fault.LineReason.TheVariants.{Read}
use Rattle.hdt_terms.specs.declared.split.SplitFault.{SplitFault}
use Rattle.hdt_terms.specs.declared.split.SplitFault.TheVariants as faults
use Rattle.hdt_terms.specs.declared.split.SplitReport.{SplitReport}
use Rattle.hdt_terms.specs.declared.triple.Triple.{Triple}
use Rattle.hdt_wire.specs.declared.Role.TheVariants.{Subject, Predicate}
use Rattle.hdt_terms.specs.declared.fault.FailedCheck.{FailedCheck}
use Rattle.hdt_terms.specs.LineParsing.{line_in, role_term_after_whitespace}
use Rattle.hdt_terms.specs.TermParsing.{◌>>=◌, skip_whitespace}
use Rattle.hdt_terms.specs.Documents.{AreDocumentLines, BeginsWithLines, DocumentLine, FaultAfterDocumentLines}
use Rattle.hdt_terms.specs.Lint.{GainsAllBut, GainsPrefix, fault_of_line, faulty_lines}
use Rattle.hdt_terms.specs.Parts.{part_of_string}
use Rattle.hdt_terms.specs.Terms.{dictionary_string}

-- ---- the triples of the lines

abbrev pub found_triple : {E : Type 0} → Result (Option Triple) E → Option Triple
found_triple (Ok x) = x
found_triple (Err fault) = None

-- The triple of a line, if it has one.
abbrev pub triple_of_line : DocumentLine → Option Triple
triple_of_line line = found_triple (line_in line.text)

-- The triples of the lines that have one.
abbrev pub triples_of_document : List DocumentLine → List Triple
triples_of_document lines = filter_map triple_of_line lines

-- The strings of blank nodes begin with U+005F, and no others do.
abbrev pub is_blank_string : List ℕ → Bool
is_blank_string [] = false
is_blank_string (c ∷ rest) = c == 95

abbrev pub has_blank_node : Option Triple → Bool
has_blank_node None = false
has_blank_node (Some triple) =
    is_blank_string (dictionary_string triple.s) || is_blank_string (dictionary_string triple.o)

-- Whether a line has a blank node.
abbrev pub have_blank_nodes : List DocumentLine → Bool
have_blank_nodes [] = false
have_blank_nodes (line ∷ lines) = has_blank_node (triple_of_line line) || have_blank_nodes lines

-- The number of a line unless it is empty: what follows the last line end counts only if there is something.
abbrev pub number_if_nonempty : ℕ → ℕ → List ℕ → ℕ
number_if_nonempty before number [] = before
number_if_nonempty before number (b ∷ bytes) = number

abbrev pub last_number : ℕ → List DocumentLine → ℕ
last_number before [] = before
last_number before (line ∷ lines) = last_number (number_if_nonempty before line.number (line.text ++ line.end)) lines

-- What a split reports of lines.
pub record IsReportOf (lines : List DocumentLine) (report : SplitReport) : Type 0 where
  pub lines_are : report.lines ≡ last_number 0 lines
  pub triples_are : report.triples ≡ length (triples_of_document lines)
  pub blank_is : report.has_blank_nodes ≡ have_blank_nodes lines

-- ---- the lines of each part

-- The bytes with the prefix before the label of a blank node, if they begin with one.
abbrev pub prefix_label : List ℕ → List ℕ → List ℕ
prefix_label prefix [] = []
prefix_label prefix (a ∷ []) = a ∷ []
prefix_label prefix (a ∷ b ∷ label) = if a == 95 then a ∷ b ∷ (prefix ++ label) else a ∷ b ∷ label

-- The number of a line with a triple, and the part of its subject's string, with the prefix. Lines are numbered from 1,
-- so the number 0 means that there is none.
pub record TripleLine : Type 0 where
  pub number : ℕ
  pub part : ℕ

-- The line of this number and triple, or `before` if it has none.
abbrev pub triple_line_or_before : List ℕ → ℕ → TripleLine → ℕ → Option Triple → TripleLine
triple_line_or_before prefix parts before number None = before
triple_line_or_before prefix parts before number (Some triple) =
    record { number = number; part = part_of_string parts (prefix_label prefix (dictionary_string triple.s)) }

-- The last line with a triple: this line, or the one before.
abbrev pub triple_line_after : List ℕ → ℕ → TripleLine → DocumentLine → TripleLine
triple_line_after prefix parts before line = triple_line_or_before prefix parts before line.number (triple_of_line line)

-- The last line with a triple up to these lines; `before` is the last one before them.
abbrev pub last_triple_line : List ℕ → ℕ → TripleLine → List DocumentLine → TripleLine
last_triple_line prefix parts before [] = before
last_triple_line prefix parts before (line ∷ lines) =
    last_triple_line prefix parts (triple_line_after prefix parts before line) lines

-- The end of a line, or U+000A for the last line, which has none.
abbrev pub end_or_feed : List ℕ → List ℕ
end_or_feed [] = 10 ∷ []
end_or_feed (e ∷ more) = e ∷ more

-- `prefix_label` after leading whitespace.
abbrev pub prefix_first_label : List ℕ → List ℕ → List ℕ
prefix_first_label prefix bytes = take (length bytes - length (skip_whitespace bytes)) bytes
    ++ prefix_label prefix (skip_whitespace bytes)

-- What follows the subject and the predicate of a line.
unfoldable pub object_at : List ℕ → Result (List ℕ) FailedCheck
object_at text =
    role_term_after_whitespace Subject text >>= λ s.
    role_term_after_whitespace Predicate s.1 >>= λ p. Ok p.1

abbrev pub prefix_labels_at : List ℕ → List ℕ → Result (List ℕ) FailedCheck → List ℕ
prefix_labels_at prefix text (Ok rest) = prefix_first_label prefix (take (length text - length rest) text)
    ++ prefix_first_label prefix rest
prefix_labels_at prefix text (Err stop) = text

-- The text of a line with the prefix, unless it is empty, before the labels of the subject and the object.
abbrev pub prefix_labels : List ℕ → List ℕ → List ℕ
prefix_labels [] text = text
prefix_labels (c ∷ prefix) text = prefix_labels_at (c ∷ prefix) text (object_at text)

-- The line with its end, and the prefix before its labels.
abbrev pub prefixed_line : List ℕ → DocumentLine → List ℕ
prefixed_line prefix line = prefix_labels prefix line.text ++ end_or_feed line.end

-- The line with its end, if it is the last line with a triple and that has this part.
abbrev pub line_if_in_part : List ℕ → ℕ → TripleLine → DocumentLine → List ℕ
line_if_in_part prefix part last line =
    if last.part == part && last.number == line.number then prefixed_line prefix line else []

-- The lines of the part among these; `before` is the last line with a triple before them.
abbrev pub further_part_lines : List ℕ → ℕ → TripleLine → ℕ → List DocumentLine → List ℕ
further_part_lines prefix parts before part [] = []
further_part_lines prefix parts before part (line ∷ lines) =
    line_if_in_part prefix part (triple_line_after prefix parts before line) line
    ++ further_part_lines prefix parts (triple_line_after prefix parts before line) part lines

abbrev pub no_triple_line : TripleLine
no_triple_line = record { number = 0; part = 0 }

-- The lines with a triple whose subject, with the prefix, has this part, each with its end and the prefix before its
-- labels, in order. U+000A after U+000D has the number of its line, so it goes with it.
abbrev pub part_lines : List ℕ → ℕ → List DocumentLine → ℕ → List ℕ
part_lines prefix parts lines part = further_part_lines prefix parts no_triple_line part lines

-- ---- what the writers have gained

-- Each writer has gained the text of its part.
abbrev pub EachGains : List (Option (List ℕ)) → List (Option (List ℕ)) → (ℕ → List ℕ) → Type 0
EachGains before after text = (length after ≡ length before)
    × ((part : ℕ) → part < length before → Appends (get_or before part None) (get_or after part None) (text part))

-- Each writer has gained a prefix of the text of its part.
abbrev pub EachGainsPrefix : List (Option (List ℕ)) → List (Option (List ℕ)) → (ℕ → List ℕ) → Type 0
EachGainsPrefix before after text = (length after ≡ length before)
    × ((part : ℕ) → part < length before → GainsPrefix (get_or before part None) (get_or after part None) (text part))

-- Each writer has gained the text of its part but for its last bytes, which are pending.
abbrev pub EachGainsAllBut : List (Option (List ℕ)) → List (Option (List ℕ)) → (ℕ → List ℕ) → List (List ℕ) → Type 0
EachGainsAllBut before after text pending = (length after ≡ length before) × (length pending ≡ length before)
    × ((part : ℕ) → part < length before
    → GainsAllBut (get_or before part None) (get_or after part None) (text part) (get_or pending part []))

-- The writer of the part failed, once, and no other writer.
abbrev pub FailsOnce : ℕ → List ℕ → List ℕ → Type 0
FailsOnce part before after = after ≡ set before part (get_or before part 0 + 1)

-- ---- complete and interrupted runs

-- No line of the input is faulty, and each writer has gained the lines of its part.
pub record SplitsInput (prefix : List ℕ) (input : Option (List ℕ)) (before after : List (Option (List ℕ)))
    (report : SplitReport) : Type 0 where
  pub lines : List DocumentLine
  pub are : AreDocumentLines input lines
  pub right : faulty_lines lines ≡ []
  pub report_is : IsReportOf lines report
  pub parts : EachGains before after (part_lines prefix (length before) lines)

-- The fault is the error of the line after these, or that line could not be read: then given is the input that the
-- reader has left after the error.
abbrev pub IsFaultAfter : LineFault → Option (List ℕ) → Option (List ℕ) → List DocumentLine → Type 0
IsFaultAfter fault input given lines =
    ((line : DocumentLine) × BeginsWithLines input (lines ++ line ∷ []) × (fault_of_line line ≡ Some fault))
    ⊎ FaultAfterDocumentLines fault input given lines

-- A line is the cause, or a writer that there is.
abbrev pub IsSplitFaultAfter : ℕ → SplitFault → Option (List ℕ) → Option (List ℕ) → List DocumentLine → Type 0
IsSplitFaultAfter parts (faults.Line fault) input given lines = IsFaultAfter fault input given lines
IsSplitFaultAfter parts (faults.Write part) input given lines = part < parts
IsSplitFaultAfter parts faults.OutOfMemory input given lines = Unit {0}

-- An error ended the run after some lines, none of them faulty: each writer has gained a prefix of the lines of its
-- part.
pub record SplitsUntilFault (prefix : List ℕ) (input given : Option (List ℕ)) (before after : List (Option (List ℕ)))
    (fault : SplitFault) : Type 0 where
  pub lines : List DocumentLine
  pub are : BeginsWithLines input lines
  pub right : faulty_lines lines ≡ []
  pub behind : IsSplitFaultAfter (length before) fault input given lines
  pub parts : EachGainsPrefix before after (part_lines prefix (length before) lines)

-- The reader failed.
abbrev pub IsSplitReadFault : SplitFault → Type 0
IsSplitReadFault (faults.Line fault) = fault.reason ≡ Read
IsSplitReadFault fault = ⊥
