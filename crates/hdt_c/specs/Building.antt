-- The report of building a file from N-Triples.
use Rattle.std.specs.Prelude.{◌≡◌, ◌⊎◌, ⊤, ℕ, List, [], ◌∷◌, Option, Some}
use Rattle.hdt_terms.specs.Reasons.{line_reason_number}
use Rattle.hdt_build.specs.Built.{Builds}
use Rattle.hdt_build.specs.Options.{AreValidOptions}
use Rattle.hdt_build.specs.Reading.{IsBuildFaultOf}
use Rattle.hdt_build.specs.declared.fault.BuildFault.{BuildFault}
use Rattle.hdt_build.specs.declared.fault.BuildFault.TheVariants as faults
use Rattle.hdt_build.specs.declared.options.Options.{Options}
use Rattle.hdt_build.specs.declared.options.Report.{Report}
use Rattle.hdt_c.specs.Bytes.{HoldsBytes, HoldsNoBytes}
use Rattle.hdt_c.specs.Verdicts.{no_counts}
use Rattle.hdt_c.specs.declared.bytes.HdtBytes.{HdtBytes}
use Rattle.hdt_c.specs.declared.report.HdtReport.{HdtReport}
use Rattle.hdt_c.specs.ReasonNumbers.{bad_options_reason, no_triples_reason, out_of_memory_reason}

-- the options with this base IRI and block size
pub record AreGivenOptions (base : List ℕ) (b : ℕ) (options : Options) : Type 0 where
  pub base_is : options.base.items ≡ base
  pub size_is : options.block_size ≡ b

-- the number of triples, then of strings: shared, subjects, predicates, objects
abbrev pub report_counts : Report → List ℕ
report_counts r = r.triples ∷ r.shared ∷ r.subjects ∷ r.predicates ∷ r.objects ∷ []

-- the report of a file that was built
abbrev pub built_report : Report → HdtReport
built_report r = record { reason = 0; line = 0; column = 0; counts = report_counts r }

-- the report of a reason without a line
abbrev pub report_for : ℕ → HdtReport
report_for n = record { reason = n; line = 0; column = 0; counts = no_counts }

-- the report of an error
abbrev pub report_of_fault : BuildFault → HdtReport
report_of_fault (faults.Line fault) =
    record { reason = line_reason_number fault.reason; line = fault.line; column = fault.column; counts = no_counts }
report_of_fault faults.NoTriples = report_for no_triples_reason
report_of_fault faults.BadOptions = report_for bad_options_reason
report_of_fault faults.OutOfMemory = report_for out_of_memory_reason
report_of_fault (faults.Write n) = report_for out_of_memory_reason

-- the options are valid, the text is a document, and the bytes are the canonical file of its graph
pub record BuildsText (text base : List ℕ) (b : ℕ) (bytes : List ℕ) (report : Report) : Type 0 where
  pub options : Options
  pub given : AreGivenOptions base b options
  pub right : AreValidOptions options
  pub builds : Builds options (Some text) bytes report

-- the options are not valid
pub record AreInvalidOptions (base : List ℕ) (b : ℕ) : Type 0 where
  pub options : Options
  pub given : AreGivenOptions base b options
  pub bad : AreValidOptions options → ⊥

-- the text has the error
pub record HasDocumentFault (text : List ℕ) (fault : BuildFault) : Type 0 where
  pub after : Option (List ℕ)
  pub is_reported : IsBuildFaultOf (Some text) after fault

-- the options have the error; or the text has it, and the options are valid; running out of memory says nothing of them
abbrev pub HasBuildFault : List ℕ → List ℕ → ℕ → BuildFault → Type 0
HasBuildFault text base b faults.BadOptions = AreInvalidOptions base b
HasBuildFault text base b faults.OutOfMemory = ⊤
HasBuildFault text base b fault = (AreInvalidOptions base b → ⊥) × HasDocumentFault text fault

-- the bytes are the file, and the report says so
pub record BuildsBytes (text base : List ℕ) (b : ℕ) (out : HdtBytes) (reported : HdtReport) : Type 0 where
  pub bytes : List ℕ
  pub report : Report
  pub is : BuildsText text base b bytes report
  pub made : HoldsBytes out bytes
  pub is_reported : reported ≡ built_report report

-- there are no bytes, and the report is that of the error
pub record FailsToBuild (text base : List ℕ) (b : ℕ) (out : HdtBytes) (reported : HdtReport) : Type 0 where
  pub fault : BuildFault
  pub is_fault : HasBuildFault text base b fault
  pub made : HoldsNoBytes out
  pub is_reported : reported ≡ report_of_fault fault

-- the result of `hdt_build`
abbrev pub ReportsBuild : List ℕ → List ℕ → ℕ → HdtBytes → HdtReport → Type 0
ReportsBuild text base b out report = BuildsBytes text base b out report ⊎ FailsToBuild text base b out report
