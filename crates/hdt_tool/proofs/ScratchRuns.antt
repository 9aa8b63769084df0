-- Reading several documents with scratch: errors.
use Rattle.std.proofs.Common.{◌≡◌, ℕ, List, [], ◌∷◌, Bool, true, Option, inl, refl, subst}
use Rattle.hdt_build.specs.Documents.{IsDocumentWith}
use Rattle.hdt_build.specs.Reading.{IfBuildFault, IsBuildFaultOf}
use Rattle.hdt_build.specs.declared.fault.ScratchFault.{ScratchFault}
use Rattle.hdt_build.specs.declared.fault.ScratchFault.TheVariants as scratches
use Rattle.hdt_tool.specs.BuildInputs.{IfInput, IsFaultOfDocumentAt, StopsReading, collect_fault, document_fault}
use Rattle.hdt_tool.specs.SplitInputs.{Contents, IsBlankNodesFault, Turn}
use Rattle.hdt_tool.specs.declared.splitting.SplitInputsFault.{SplitInputsFault}
use Rattle.hdt_tool.specs.declared.splitting.SplitInputsFault.TheVariants as stop
use Rattle.hdt_tool.proofs.DocumentRuns.{fault_of_document}

-- An error of the builder at an input.
pub fault_at : {E : Type 0} → (turn : Turn) (input left : Option (List ℕ)) (fault : ScratchFault E)
    (P : SplitInputsFault → Type 0) → IfBuildFault (IsBuildFaultOf input left) fault
    → ((s : SplitInputsFault) → IsFaultOfDocumentAt turn input s → P s)
    → IfInput P (collect_fault turn.number fault)
fault_at turn input left (scratches.Build f) P h step =
    step (document_fault turn.number f) (fault_of_document turn input left f h)
fault_at turn input left (scratches.Scratch e) P h step = tt
fault_at turn input left scratches.Damaged P h step = tt

-- A second input with blank nodes.
pub mixed : (turn : Turn) (input : Option (List ℕ)) (has : Bool) (fault : SplitInputsFault) → IsDocumentWith input has
    → IsBlankNodesFault turn.mode turn.first turn.number fault → has ≡ true → IsFaultOfDocumentAt turn input fault
mixed turn input has (stop.Input k fault) read scope is = absurd scope
mixed turn input has (stop.BlankNodes k m) read scope is =
    (scope, (read.triples, read.document, subst (λ (b : Bool). b ≡ true) read.blank is))
mixed turn input has stop.OutOfMemory read scope is = absurd scope

-- Memory may run out before anything is read.
pub no_memory : (turn : Turn) (inputs : Contents) → StopsReading turn inputs stop.OutOfMemory
no_memory turn [] = refl
no_memory turn (input ∷ inputs) = inl tt
