-- Errors of documents whose lines may not be longer than a limit.
use Rattle.std.specs.Prelude.{◌≡◌, ◌⊎◌, ℕ}
use Rattle.hdt_terms.specs.declared.fault.LineFault.{LineFault}
use Rattle.hdt_terms.specs.declared.fault.LineReason.TheVariants as reason
use Rattle.hdt_terms.specs.declared.split.SplitFault.TheVariants.{Line}
use Rattle.hdt_tool.specs.declared.fault.ToolFault.{ToolFault}
use Rattle.hdt_tool.specs.declared.fault.ToolFault.TheVariants as fault
use Rattle.hdt_tool.specs.declared.splitting.SplitInputsFault.{SplitInputsFault}
use Rattle.hdt_tool.specs.declared.splitting.SplitInputsFault.TheVariants.{Input as input_fault}

-- The error stays, or it is a failed read and becomes that of a line.
abbrev pub NamesLongLine : ToolFault → ToolFault → Type 0
NamesLongLine given named = (named ≡ given)
    ⊎ ((given ≡ fault.Read) × ((long : LineFault) × (named ≡ fault.Input long)))

-- The same for the error of a split, of the same input.
abbrev pub NamesLongSplitLine : SplitInputsFault → SplitInputsFault → Type 0
NamesLongSplitLine given named = (named ≡ given)
    ⊎ ((n : ℕ) × (read : LineFault) × (long : LineFault) × (given ≡ input_fault n (Line read))
    × (read.reason ≡ reason.Read) × (named ≡ input_fault n (Line long)))
