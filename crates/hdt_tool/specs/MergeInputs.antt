-- Merging several files with scratch: which triples were added to those before.
use Rattle.std.specs.Prelude.{◌≡◌, ◌+◌, ◌++◌, ◌⊎◌, ℕ, List, [], ◌∷◌, Option}
use Rattle.hdt_build.specs.declared.fault.BuildFault.TheVariants as building
use Rattle.hdt_build.specs.Layouts.{denoted_by}
use Rattle.hdt_build.specs.Reading.{IfBuildFault}
use Rattle.hdt_build.specs.Relabelling.{relabelled_triples}
use Rattle.hdt_file.specs.Denoted.{StringTriple}
use Rattle.hdt_file.specs.File.{GraphParts}
use Rattle.hdt_tool.specs.Changes.{Change, Update, update}
use Rattle.hdt_tool.specs.Outcomes.{IsFaultOfInput, IsLayoutWith, ReadsWith}
use Rattle.hdt_tool.specs.SplitInputs.{Contents, input_prefix}
use Rattle.hdt_tool.specs.declared.fault.ToolFault.{ToolFault}
use Rattle.hdt_tool.specs.declared.request.Action.TheVariants.{Verify}
use Rattle.hdt_tool.specs.declared.request.BlankNodes.{BlankNodes}
use Rattle.hdt_tool.specs.declared.scratch_merge.FilesFault.{FilesFault}
use Rattle.hdt_tool.specs.declared.scratch_merge.FilesFault.TheVariants as files

-- The input was read to its end: it is a valid file, and Holds is true for its graph.
abbrev pub IsFileWith : Option (List ℕ) → (GraphParts → Type 0) → Type 0
IsFileWith input Holds = (read : Change) × (read.before ≡ input) × ReadsWith read (λ bytes. IsLayoutWith bytes Holds)

-- The inputs, whose numbers begin with n, are valid files, and the triples of one after another were added to those
-- before; with `apart` each label has the prefix of its file.
abbrev pub MergesInTurn : Option BlankNodes → ℕ → Contents → Update (List StringTriple) → Type 0
MergesInTurn mode n [] triples = triples.after ≡ triples.before
MergesInTurn mode n (input ∷ inputs) triples = IsFileWith input (λ graph. MergesInTurn mode (n + 1) inputs
    (update (triples.before ++ relabelled_triples (input_prefix mode n) (denoted_by graph)) triples.after))

-- The error is one of `verify` for the input with the number n.
abbrev pub IsFaultOfFileAt : ℕ → Option (List ℕ) → ℕ → ToolFault → Type 0
IsFaultOfFileAt n input k fault = (k ≡ n) × ((read : Change) × (read.before ≡ input) × IsFaultOfInput Verify read fault)

-- The error is that of one of the inputs, whose numbers begin with n, and those before it are valid files.
abbrev pub StopsMerging : ℕ → Contents → ℕ → ToolFault → Type 0
StopsMerging n [] k fault = ⊥
StopsMerging n (input ∷ inputs) k fault = IsFaultOfFileAt n input k fault
    ⊎ (IsFileWith input (λ graph. Unit {0}) × StopsMerging (n + 1) inputs k fault)

-- The error of collecting files with scratch: that of one of the inputs, or of the scratch; or memory ran out.
abbrev pub IsFilesFault : {E : Type 0} → Contents → FilesFault E → Type 0
IsFilesFault inputs (files.File k fault) = StopsMerging 0 inputs k fault
IsFilesFault inputs (files.Scratch fault) = IfBuildFault (λ e. e ≡ building.OutOfMemory) fault
