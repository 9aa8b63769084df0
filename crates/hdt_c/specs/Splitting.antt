-- The report of splitting N-Triples by subject.
use Rattle.std.specs.Prelude.{◌≡◌, ◌⊎◌, ⊤, ℕ, if◌then◌else◌, List, [], map, replicate, Option, Some}
use Rattle.std.specs.List.{concat}
use Rattle.hdt_wire.specs.Counted.{inner}
use Rattle.hdt_wire.specs.declared.counted.Counted.{Counted}
use Rattle.std.specs.Global.{Vec}
use Rattle.hdt_dict.specs.StringBatch.{ends_from}
use Rattle.hdt_terms.specs.Documents.{BeginsWithLines, DocumentLine}
use Rattle.hdt_terms.specs.Lint.{faulty_lines}
use Rattle.hdt_terms.specs.Parts.{IsPartCount}
use Rattle.hdt_terms.specs.Reasons.{line_reason_number}
use Rattle.hdt_terms.specs.Split.{IsFaultAfter, SplitsInput}
use Rattle.hdt_terms.specs.declared.fault.LineFault.{LineFault}
use Rattle.hdt_terms.specs.declared.fault.LineReason.{LineReason}
use Rattle.hdt_terms.specs.declared.fault.LineReason.TheVariants.{OutOfMemory}
use Rattle.hdt_terms.specs.declared.split.SplitFault.{SplitFault}
use Rattle.hdt_terms.specs.declared.split.SplitFault.TheVariants as stops
use Rattle.hdt_terms.specs.declared.split.SplitReport.{SplitReport}
use Rattle.hdt_c.specs.Bytes.{HoldsBytes}
use Rattle.hdt_c.specs.CallerBuffer.{overwritten_prefix}
use Rattle.hdt_c.specs.StringLists.{WritesNothing}
use Rattle.hdt_c.specs.declared.bytes.HdtBytes.{HdtBytes}
use Rattle.hdt_c.specs.declared.report.HdtSplitReport.{HdtSplitReport}
use Rattle.hdt_c.specs.ReasonNumbers.{bad_options_reason, out_of_memory_reason}

-- ---- reports

-- the report of a text that was split
abbrev pub split_report : SplitReport → HdtSplitReport
split_report r = record {
  reason = 0;
  has_blank_nodes = if r.has_blank_nodes then 1 else 0;
  line = 0;
  column = 0;
  lines = r.lines;
  triples = r.triples;
}

-- the report of a reason without a line
abbrev pub split_report_for : ℕ → HdtSplitReport
split_report_for n = record { reason = n; has_blank_nodes = 0; line = 0; column = 0; lines = 0; triples = 0 }

-- running out of memory in a line is not an error of the line
abbrev pub report_of_reason : LineReason → LineFault → HdtSplitReport
report_of_reason OutOfMemory fault = split_report_for out_of_memory_reason
report_of_reason reason fault =
    record {
      reason = line_reason_number reason;
      has_blank_nodes = 0;
      line = fault.line;
      column = fault.column;
      lines =
          0;
      triples = 0;
    }

-- the report of a faulty line
abbrev pub report_of_line : LineFault → HdtSplitReport
report_of_line fault = report_of_reason fault.reason fault

-- the report of an error
abbrev pub split_report_of_fault : SplitFault → HdtSplitReport
split_report_of_fault (stops.Line fault) = report_of_line fault
split_report_of_fault (stops.Write part) = split_report_for out_of_memory_reason
split_report_of_fault stops.OutOfMemory = split_report_for out_of_memory_reason

-- ---- the texts of the parts

-- what a writer into memory has
abbrev pub written_text : Counted (Vec ℕ) → List ℕ
written_text out = (inner {T = Vec ℕ} out).items

abbrev pub written_texts : List (Counted (Vec ℕ)) → List (List ℕ)
written_texts outs = map (λ out. written_text out) outs

-- the text is a document, and these are the lines of each part, as if it was split into empty files
abbrev pub SplitsText : List ℕ → ℕ → List ℕ → List (List ℕ) → SplitReport → Type 0
SplitsText text parts prefix texts report =
    SplitsInput prefix (Some text) (replicate parts (Some [])) (map (λ part. Some part) texts) report

-- the texts of the parts one after another, and the byte offset at which each ends
pub record JoinsParts (text : List ℕ) (parts : ℕ) (prefix bytes ends : List ℕ) (report : SplitReport) : Type 0 where
  pub texts : List (List ℕ)
  pub are : SplitsText text parts prefix texts report
  pub bytes_are : bytes ≡ concat texts
  pub ends_are : ends ≡ ends_from 0 texts

-- ---- errors

-- no line before the faulty one has an error
pub record IsFirstFault (text : List ℕ) (fault : LineFault) : Type 0 where
  pub given : Option (List ℕ)
  pub lines : List DocumentLine
  pub are : BeginsWithLines (Some text) lines
  pub right : faulty_lines lines ≡ []
  pub behind : IsFaultAfter fault (Some text) given lines

-- the text has the error; running out of memory says nothing of it
abbrev pub HasSplitFault : List ℕ → SplitFault → Type 0
HasSplitFault text (stops.Line fault) = IsFirstFault text fault
HasSplitFault text fault = ⊤

-- ---- the result of `hdt_split`

-- the bytes are the texts of the parts, the byte offset at which each ends was written to the buffer, and the report
-- says so
pub record PutsParts (text : List ℕ) (parts : ℕ) (prefix : List ℕ) (out : HdtBytes) (old new : List ℕ)
    (reported : HdtSplitReport) : Type 0 where
  pub bytes : List ℕ
  pub ends : List ℕ
  pub report : SplitReport
  pub count : IsPartCount parts
  pub joined : JoinsParts text parts prefix bytes ends report
  pub made : HoldsBytes out bytes
  pub places : new ≡ overwritten_prefix ends old
  pub is_reported : reported ≡ split_report report

-- there are no bytes, and the report is that of the error
pub record FailsToSplit (text : List ℕ) (parts : ℕ) (out : HdtBytes) (old new : List ℕ)
    (reported : HdtSplitReport) : Type 0 where
  pub fault : SplitFault
  pub count : IsPartCount parts
  pub is : HasSplitFault text fault
  pub nothing : WritesNothing out old new
  pub is_reported : reported ≡ split_report_of_fault fault

-- there are no bytes, since the number of parts is not valid
abbrev pub RefusesParts : ℕ → HdtBytes → List ℕ → List ℕ → HdtSplitReport → Type 0
RefusesParts parts out old new reported = (IsPartCount parts → ⊥) × WritesNothing out old new
    × (reported ≡ split_report_for bad_options_reason)

abbrev pub ReportsSplit : List ℕ → ℕ → List ℕ → HdtBytes → List ℕ → List ℕ → HdtSplitReport → Type 0
ReportsSplit text parts prefix out old new reported = PutsParts text parts prefix out old new reported
    ⊎ (FailsToSplit text parts out old new reported ⊎ RefusesParts parts out old new reported)
