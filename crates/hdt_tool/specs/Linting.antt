-- The outcomes of `lint`.
use Rattle.std.specs.Prelude.{◌≡◌, ◌<◌, ◌-◌, ◌^◌, min, ℕ, Bool, true, false, Option, None, Some}
use Rattle.hdt_terms.specs.LinesReader.{max_input_len}
use Rattle.hdt_terms.specs.Lint.{LintsInput, LintsUntilFault}
use Rattle.hdt_terms.specs.declared.lint.LintFault.{LintFault}
use Rattle.hdt_terms.specs.declared.lint.LintFault.TheVariants as linting
use Rattle.hdt_tool.specs.Changes.{Change}
use Rattle.hdt_tool.specs.Faults.{line_fault_of}
use Rattle.hdt_tool.specs.declared.fault.ToolFault.{ToolFault}
use Rattle.hdt_tool.specs.declared.lint.LintOptions.{LintOptions}
use Rattle.hdt_tool.specs.declared.fault.ToolFault.TheVariants.{Write, OutOfMemory}

-- The number of faulty lines after which `lint` stops: that of `--most`, or the largest of 64 bits.
abbrev pub most_faulty : Option ℕ → ℕ
most_faulty None = 2 ^ 64 - 1
most_faulty (Some n) = n

-- The greatest number of bytes of a line, without its end: that of `--longest-line`, or the greatest of an input.
abbrev pub longest_line : Option ℕ → ℕ
longest_line None = max_input_len
longest_line (Some n) = min n max_input_len

-- Whether a number is above zero.
abbrev pub IsAny : ℕ → Bool → Type 0
IsAny n false = n ≡ 0
IsAny n true = 0 < n

-- All lines of the input, or its first lines up to the last of `most` faulty ones, were checked, and `faulty` is
-- whether any of these is faulty. The two writers have gained the kept lines and the reports.
pub record Lints (options : LintOptions) (input kept reported : Change) (faulty : Bool) : Type 0 where
  pub count : ℕ
  pub any : IsAny count faulty
  pub lints : LintsInput (longest_line options.longest) options.keep (most_faulty options.most) input.before kept.before
      kept.after reported.before reported.after count

-- The error of the command for an error of the library.
abbrev pub lint_fault_of : LintFault → ToolFault
lint_fault_of (linting.Line fault) = line_fault_of fault
lint_fault_of (linting.Write n) = Write n
lint_fault_of linting.OutOfMemory = OutOfMemory

-- The error ended the run after some lines: the two writers have gained a prefix of the kept lines and of the reports.
-- If a line could not be read, these are all lines before it.
pub record LintsUntilError (options : LintOptions) (input kept reported : Change) (error : ToolFault) : Type 0 where
  pub fault : LintFault
  pub is : error ≡ lint_fault_of fault
  pub lints : LintsUntilFault (longest_line options.longest) options.keep input.before input.after kept.before
      kept.after reported.before reported.after fault
