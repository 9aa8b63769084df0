-- How commands end, and the exit statuses of the program.
use Rattle.std.specs.Prelude.{◌≡◌, ◌≢◌, ◌≤◌, ◌⊎◌, ℕ, Bool, true, false, List}
use Rattle.clap.specs.Words.{Text}
use Rattle.hdt_tool.specs.CommandLine.{IsRefused, ParsesToRequest}
use Rattle.hdt_terms.specs.declared.split.SplitFault.TheVariants as splitting
use Rattle.hdt_tool.specs.ErrorLines.{fault_status, usage_status}
use Rattle.hdt_tool.specs.Faults.{line_fault_of}
use Rattle.hdt_tool.specs.declared.splitting.SplitInputsFault.{SplitInputsFault}
use Rattle.hdt_tool.specs.declared.splitting.SplitInputsFault.TheVariants as stop
use Rattle.hdt_tool.specs.declared.outcome.Outcome.{Outcome}
use Rattle.hdt_tool.specs.declared.outcome.Outcome.TheVariants.{Done, Negative, Skipped, NonTerms, Refused, Failed}
use Rattle.hdt_tool.specs.declared.request.AnswerReport.{AnswerReport}
use Rattle.hdt_tool.specs.declared.request.Request.{Request}
use Rattle.hdt_tool.specs.declared.fault.ToolFault.TheVariants as tool
use Rattle.hdt_tool.specs.declared.fault.UsageFault.{UsageFault}
use Rattle.hdt_tool.specs.declared.fault.UsageFault.TheVariants as usage

-- The outcome of a run that counted n.
abbrev pub IsCounted : ℕ → Outcome → Type 0
IsCounted n Done = n ≡ 0
IsCounted n (Skipped m) = (m ≡ n) × (n ≢ 0)
IsCounted n (NonTerms m) = (m ≡ n) × (n ≢ 0)
IsCounted n outcome = ⊥

-- The outcome of complete answers.
abbrev pub IsAnswered : AnswerReport → Outcome → Type 0
IsAnswered report Done = (report.has_errors ≡ false) × (report.skipped ≡ 0)
IsAnswered report Negative = (report.has_errors ≡ true) × (report.skipped ≡ 0)
IsAnswered report (Skipped n) = (n ≡ report.skipped) × (n ≢ 0)
IsAnswered report outcome = ⊥

-- The outcome of `lint`, by whether a line is faulty.
abbrev pub IsLinted : Bool → Outcome → Type 0
IsLinted faulty Done = faulty ≡ false
IsLinted faulty Negative = faulty ≡ true
IsLinted faulty outcome = ⊥

-- The outcome of an error of `split`.
abbrev pub split_outcome : SplitInputsFault → Outcome
split_outcome (stop.Input n (splitting.Line fault)) = Failed (line_fault_of fault)
split_outcome (stop.Input n (splitting.Write part)) = Failed (tool.Write 0)
split_outcome (stop.Input n splitting.OutOfMemory) = Failed tool.OutOfMemory
split_outcome (stop.BlankNodes one other) = Refused
split_outcome stop.OutOfMemory = Failed tool.OutOfMemory

-- The exit status of an outcome, which is 4 also if there is no memory for its message.
abbrev pub IsExitStatus : Outcome → ℕ → Type 0
IsExitStatus Done status = status ≡ 0
IsExitStatus Negative status = status ≡ 1
IsExitStatus (Skipped n) status = (status ≡ 1) ⊎ (status ≡ 4)
IsExitStatus (NonTerms n) status = (status ≡ 1) ⊎ (status ≡ 4)
IsExitStatus Refused status = (status ≡ 2) ⊎ (status ≡ 4)
IsExitStatus (Failed fault) status = (status ≡ fault_status fault) ⊎ (status ≡ 4)

-- Help has status 0, or 3 if it cannot be printed. A usage error has its status, or 4 if there is no memory for its
-- message.
abbrev pub IsRefusalStatus : UsageFault → ℕ → Type 0
IsRefusalStatus (usage.Help text) status = (status ≡ 0) ⊎ (status ≡ 3)
IsRefusalStatus fault status = (status ≡ usage_status fault) ⊎ (status ≡ 4)

-- The command line gives a request, and the status is one of a command.
pub record ExitsFromCommand (words : List Text) (status : ℕ) : Type 0 where
  pub request : Request
  pub wanted : ParsesToRequest words request
  pub ends : status ≤ 4

-- The command line is refused, and the status is one of its error.
pub record ExitsRefused (words : List Text) (status : ℕ) : Type 0 where
  pub fault : UsageFault
  pub refused : IsRefused words fault
  pub ends : IsRefusalStatus fault status

-- The program may end with this status for this command line.
abbrev pub ExitsWith : List Text → ℕ → Type 0
ExitsWith words status = ExitsFromCommand words status ⊎ ExitsRefused words status
