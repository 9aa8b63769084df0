-- The error of the command `lint` for one of the library.
use Rattle.std.proofs.Common.{◌≡◌, ◌≢◌, ◌∙◌, ℕ, ap, sym}
use Rattle.hdt_terms.specs.declared.fault.LineFault.{LineFault}
use Rattle.hdt_terms.specs.declared.fault.LineReason.{LineReason}
use Rattle.hdt_terms.specs.declared.fault.LineReason.TheVariants as reasons
use Rattle.hdt_terms.specs.declared.lint.LintFault.{LintFault}
use Rattle.hdt_terms.specs.declared.lint.LintFault.TheVariants as linting
use Rattle.hdt_tool.specs.Faults.{fault_of_reason}
use Rattle.hdt_tool.specs.Linting.{lint_fault_of}
use Rattle.hdt_tool.specs.declared.fault.ToolFault.{ToolFault}
use Rattle.hdt_tool.specs.declared.fault.ToolFault.TheVariants.{Write}

no_write : (fault : LineFault) (reason : LineReason) (n : ℕ) → fault_of_reason fault reason ≢ Write n
no_write fault reasons.Read n is = absurd cc
no_write fault reasons.OutOfMemory n is = absurd cc
no_write fault reason n is = absurd cc

-- What holds of a failed write of the library holds of that of the command.
pub lint_write : (A : ℕ → Type 0) (fault : LintFault) (e : ToolFault) → e ≡ lint_fault_of fault
    → ((n : ℕ) → fault ≡ linting.Write n → A n) → (n : ℕ) → e ≡ Write n → A n
lint_write A (linting.Line fault) e is all n same = absurd (no_write fault fault.reason n (sym is ∙ same))
lint_write A (linting.Write m) e is all n same = let equal : m ≡ n = cc in all n (ap linting.Write equal)
lint_write A linting.OutOfMemory e is all n same = absurd cc
