-- The result of replacing the header of a file.
use Rattle.std.specs.Prelude.{◌≡◌, ◌⊎◌, ℕ, List, Err}
use Rattle.hdt_terms.specs.Reasons.{line_reason_number}
use Rattle.hdt_file.specs.File.{GraphParts, IsLayout}
use Rattle.hdt_build.specs.Built.{report_of}
use Rattle.hdt_build.specs.NewHeader.{IsHeaderFaultOf, ReplacesHeader, graph_with_header}
use Rattle.hdt_build.specs.declared.fault.HeaderFault.{HeaderFault}
use Rattle.hdt_build.specs.declared.fault.HeaderFault.TheVariants as faults
use Rattle.hdt_c.specs.Building.{built_report, report_for}
use Rattle.hdt_c.specs.Bytes.{HoldsBytes, HoldsNoBytes}
use Rattle.hdt_c.specs.Rewriting.{rewritten_verdict}
use Rattle.hdt_c.specs.Verdicts.{no_counts, verdict_for, verdict_on}
use Rattle.hdt_c.specs.declared.bytes.HdtBytes.{HdtBytes}
use Rattle.hdt_c.specs.declared.report.HdtReport.{HdtReport}
use Rattle.hdt_c.specs.declared.verdict.HdtVerdict.{HdtVerdict}
use Rattle.hdt_c.specs.ReasonNumbers.{out_of_memory_reason}

-- the verdict on the file, and the report on the header
abbrev pub verdict_of_header_fault : HeaderFault → HdtVerdict
verdict_of_header_fault (faults.File fault) = verdict_on (Err fault)
verdict_of_header_fault (faults.Line fault) = verdict_for 0
verdict_of_header_fault faults.OutOfMemory = verdict_for out_of_memory_reason

abbrev pub report_of_header_fault : HeaderFault → HdtReport
report_of_header_fault (faults.File fault) = report_for 0
report_of_header_fault (faults.Line fault) =
    record { reason = line_reason_number fault.reason; line = fault.line; column = fault.column; counts = no_counts }
report_of_header_fault faults.OutOfMemory = report_for out_of_memory_reason

-- the bytes are the file with the new header, a file of the same graph, and verdict and report say so
pub record HoldsNewHeader (header bytes : List ℕ) (out : HdtBytes) (v : HdtVerdict) (r : HdtReport) : Type 0 where
  pub new : List ℕ
  pub graph : GraphParts
  pub is : ReplacesHeader header bytes graph new
  pub layout : IsLayout new (graph_with_header graph header)
  pub made : HoldsBytes out new
  pub verdict : v ≡ rewritten_verdict (report_of graph.dictionary graph.triples new)
  pub report : r ≡ built_report (report_of graph.dictionary graph.triples new)

-- there are no bytes, and verdict and report are those of the error
pub record FailsToReplace (header bytes : List ℕ) (out : HdtBytes) (v : HdtVerdict) (r : HdtReport) : Type 0 where
  pub fault : HeaderFault
  pub is_fault : IsHeaderFaultOf header bytes fault
  pub made : HoldsNoBytes out
  pub verdict : v ≡ verdict_of_header_fault fault
  pub report : r ≡ report_of_header_fault fault

-- the result of `hdt_with_header`
abbrev pub ReportsNewHeader : List ℕ → List ℕ → HdtBytes → HdtVerdict → HdtReport → Type 0
ReportsNewHeader header bytes out v r = HoldsNewHeader header bytes out v r ⊎ FailsToReplace header bytes out v r
