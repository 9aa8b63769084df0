-- Building one file from several documents: which triples were added to those before.
use Rattle.std.specs.Prelude.{◌≡◌, ◌≢◌, ◌⊎◌, ℕ, Bool, true, List, [], ◌∷◌, Option}
use Rattle.hdt_build.specs.declared.fault.BuildFault.{BuildFault}
use Rattle.hdt_build.specs.declared.fault.BuildFault.TheVariants as building
use Rattle.hdt_build.specs.declared.fault.ScratchFault.{ScratchFault}
use Rattle.hdt_build.specs.declared.fault.ScratchFault.TheVariants as scratches
use Rattle.hdt_build.specs.Documents.{AddsDocument, IsDocumentWith, triples_have_blank_nodes}
use Rattle.hdt_build.specs.Reading.{most}
use Rattle.hdt_file.specs.Denoted.{StringTriple}
use Rattle.hdt_terms.specs.Documents.{FaultInDocument, IsDocumentInput}
use Rattle.hdt_terms.specs.declared.fault.LineReason.TheVariants as reasons
use Rattle.hdt_terms.specs.declared.split.SplitFault.TheVariants as splitting
use Rattle.hdt_terms.specs.declared.triple.Triple.{Triple}
use Rattle.hdt_tool.specs.Changes.{Update, update}
use Rattle.hdt_tool.specs.SplitInputs.{Contents, IsBlankNodesFault, MixesBlankNodes, Turn, input_prefix, next_turn}
use Rattle.hdt_tool.specs.declared.scratch_build.CollectFault.{CollectFault}
use Rattle.hdt_tool.specs.declared.scratch_build.CollectFault.TheVariants as collecting
use Rattle.hdt_tool.specs.declared.splitting.SplitInputsFault.{SplitInputsFault}
use Rattle.hdt_tool.specs.declared.splitting.SplitInputsFault.TheVariants as stop

-- The inputs are documents, and the triples of one after another were added to those before; with `apart` each label
-- has the prefix of its input.
abbrev pub AddsInTurn : Turn → Contents → Update (List StringTriple) → Type 0
AddsInTurn turn [] triples = triples.after ≡ triples.before
AddsInTurn turn (input ∷ inputs) triples = (between : List StringTriple) × (has : Bool)
    × AddsDocument (input_prefix turn.mode turn.number) input triples.before between has
    × (MixesBlankNodes turn.mode turn.first has → ⊥)
    × AddsInTurn (next_turn turn has) inputs (update between triples.after)

-- The error of the builder at the input n. It is never `NoTriples`, as another input may have triples.
abbrev pub document_fault : ℕ → BuildFault → SplitInputsFault
document_fault n (building.Line fault) = stop.Input n (splitting.Line fault)
document_fault n fault = stop.Input n splitting.OutOfMemory

-- The error is that of the input: of a line, or a failed read; or it has blank nodes and so has an earlier one; or
-- memory ran out.
abbrev pub IsFaultOfDocumentAt : Turn → Option (List ℕ) → SplitInputsFault → Type 0
IsFaultOfDocumentAt turn input (stop.Input k (splitting.Line fault)) = (k ≡ turn.number)
    × ((left : Option (List ℕ)) × FaultInDocument fault most input left) × (fault.reason ≢ reasons.OutOfMemory)
IsFaultOfDocumentAt turn input (stop.Input k splitting.OutOfMemory) = k ≡ turn.number
IsFaultOfDocumentAt turn input (stop.Input k (splitting.Write part)) = ⊥
IsFaultOfDocumentAt turn input (stop.BlankNodes k m) =
    IsBlankNodesFault turn.mode turn.first turn.number (stop.BlankNodes k m)
    × ((triples : List Triple) × IsDocumentInput most input triples × (triples_have_blank_nodes triples ≡ true))
IsFaultOfDocumentAt turn input stop.OutOfMemory = Unit {0}

-- The inputs are documents, and blank nodes are in more than one only where that was allowed.
abbrev pub ReadsInTurn : Turn → Contents → Type 0
ReadsInTurn turn [] = Unit {0}
ReadsInTurn turn (input ∷ inputs) = (has : Bool) × IsDocumentWith input has
    × (MixesBlankNodes turn.mode turn.first has → ⊥) × ReadsInTurn (next_turn turn has) inputs

-- The error is that of one of the inputs, and those before it are documents.
abbrev pub StopsReading : Turn → Contents → SplitInputsFault → Type 0
StopsReading turn [] fault = fault ≡ stop.OutOfMemory
StopsReading turn (input ∷ inputs) fault = IsFaultOfDocumentAt turn input fault
    ⊎ ((has : Bool) × IsDocumentWith input has × (MixesBlankNodes turn.mode turn.first has → ⊥)
    × StopsReading (next_turn turn has) inputs fault)

-- The error of collecting documents with scratch, if it is one of the inputs.
abbrev pub IfInput : {E : Type 0} → (SplitInputsFault → Type 0) → CollectFault E → Type 0
IfInput P (collecting.Inputs fault) = P fault
IfInput P (collecting.Scratch e) = Unit {0}
IfInput P collecting.Damaged = Unit {0}

-- The error of the builder with scratch at the input n.
abbrev pub collect_fault : {E : Type 0} → ℕ → ScratchFault E → CollectFault E
collect_fault n (scratches.Build fault) = collecting.Inputs (document_fault n fault)
collect_fault n (scratches.Scratch e) = collecting.Scratch e
collect_fault n scratches.Damaged = collecting.Damaged

-- The error is that of one of the inputs, and those before it are documents, whose triples were added to these.
abbrev pub StopsAdding : Turn → Contents → List StringTriple → SplitInputsFault → Type 0
StopsAdding turn [] triples fault = fault ≡ stop.OutOfMemory
StopsAdding turn (input ∷ inputs) triples fault = IsFaultOfDocumentAt turn input fault
    ⊎ ((more : List StringTriple) × (has : Bool)
    × AddsDocument (input_prefix turn.mode turn.number) input triples more has
    × (MixesBlankNodes turn.mode turn.first has → ⊥)
    × StopsAdding (next_turn turn has) inputs more fault)
