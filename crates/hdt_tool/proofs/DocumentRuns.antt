-- Reading several documents: errors.
use Rattle.std.proofs.Common.{◌≡◌, ◌∷◌, ℕ, List, [], Bool, true, Option, refl, inl, subst}
use Rattle.hdt_build.specs.Documents.{AddsDocument}
use Rattle.hdt_build.specs.Reading.{IsBuildFaultOf}
use Rattle.hdt_build.specs.declared.fault.BuildFault.{BuildFault}
use Rattle.hdt_build.specs.declared.fault.BuildFault.TheVariants as building
use Rattle.hdt_file.specs.Denoted.{StringTriple}
use Rattle.hdt_tool.specs.BuildInputs.{IsFaultOfDocumentAt, StopsAdding, document_fault}
use Rattle.hdt_tool.specs.SplitInputs.{Contents, IsBlankNodesFault, Turn}
use Rattle.hdt_tool.specs.declared.splitting.SplitInputsFault.{SplitInputsFault}
use Rattle.hdt_tool.specs.declared.splitting.SplitInputsFault.TheVariants as stop

-- The error of reading the input.
pub fault_of_document : (turn : Turn) (input left : Option (List ℕ)) (fault : BuildFault)
    → IsBuildFaultOf input left fault → IsFaultOfDocumentAt turn input (document_fault turn.number fault)
fault_of_document turn input left (building.Line fault) h = (refl, (left, h.0), h.1)
fault_of_document turn input left fault h = refl

-- Memory may run out before anything is read.
pub no_memory : (turn : Turn) (inputs : Contents) (triples : List StringTriple)
    → StopsAdding turn inputs triples stop.OutOfMemory
no_memory turn [] triples = refl
no_memory turn (input ∷ inputs) triples = inl tt

-- A second input with blank nodes.
pub mixed : (turn : Turn) (prefix : List ℕ) (input : Option (List ℕ)) (before after : List StringTriple) (has : Bool)
    (fault : SplitInputsFault) → AddsDocument prefix input before after has
    → IsBlankNodesFault turn.mode turn.first turn.number fault → has ≡ true → IsFaultOfDocumentAt turn input fault
mixed turn prefix input before after has (stop.Input k fault) added scope is = absurd scope
mixed turn prefix input before after has (stop.BlankNodes k m) added scope is =
    (scope, (added.triples, added.document, subst (λ (b : Bool). b ≡ true) added.blank is))
mixed turn prefix input before after has stop.OutOfMemory added scope is = absurd scope
