-- Replacing the header of a file: its body is new, and all else stays, byte for byte, but the stated length of the body
-- and the CRC over it.
use Rattle.std.specs.Prelude.{◌≡◌, ◌≢◌, ℕ, List, ◌++◌, codes, drop, is_some, length, map, take, Option, Some, Err, ⊤}
use Rattle.std.specs.Prelude.{if◌then◌else◌}
use Rattle.std.specs.Fmt.{decimal}
use Rattle.std.specs.List.{join_with_byte, slice_split}
use Rattle.hdt_wire.specs.declared.control.Kind.TheVariants as kinds
use Rattle.hdt_wire.specs.Control.{control}
use Rattle.hdt_wire.specs.Property.{is_byte, property_value}
use Rattle.hdt_terms.specs.declared.fault.LineReason.TheVariants.{OutOfMemory}
use Rattle.hdt_terms.specs.declared.triple.Triple.{Triple}
use Rattle.hdt_terms.specs.Documents.{FaultInDocument}
use Rattle.hdt_terms.specs.Lines.{Document}
use Rattle.hdt_file.specs.Head.{HeadParts}
use Rattle.hdt_file.specs.File.{GraphParts, IsLayout, decode_graph}
use Rattle.hdt_file.specs.declared.fault.OpenFault.{OpenFault}
use Rattle.hdt_file.specs.declared.fault.OpenFault.TheVariants as opens
use Rattle.hdt_build.specs.declared.fault.HeaderFault.{HeaderFault}
use Rattle.hdt_build.specs.declared.fault.HeaderFault.TheVariants as faults
use Rattle.hdt_build.specs.Reading.{most}

-- An item of the header's properties; one that states a length states n.
abbrev pub item_with_length : ℕ → List ℕ → List ℕ
item_with_length n item =
    if is_some (property_value item (codes "length")) then codes "length=" ++ decimal n else item

-- Properties with the length n in place of theirs. All else is unchanged; 59 is ';'.
unfoldable pub with_length : ℕ → List ℕ → List ℕ
with_length n text = join_with_byte 59 (map (item_with_length n) (slice_split (is_byte 59) text))

-- The control information of the header with a new length of its body.
abbrev pub new_control : HeadParts → List ℕ → List ℕ
new_control head body = control kinds.Header (with_length (length body) head.header.properties)

-- The bytes of a file with a new header body: those up to the header; its control information; the body; and those
-- after the old body.
unfoldable pub with_new_header : HeadParts → List ℕ → List ℕ → List ℕ
with_new_header head body bytes = take head.global.end bytes ++ (new_control head body ++ (body ++ drop head.end bytes))

-- The graph with a new header body.
abbrev pub graph_with_header : GraphParts → List ℕ → GraphParts
graph_with_header g body = record { header = body; dictionary = g.dictionary; triples = g.triples }

-- The bytes are a file of the graph, and the new ones are the same file with this header body, which is a document.
pub record ReplacesHeader (body bytes : List ℕ) (graph : GraphParts) (made : List ℕ) : Type 0 where
  pub layout : IsLayout bytes graph
  pub triples : List Triple
  pub document : Document body triples
  pub made_is : made ≡ with_new_header layout.file.head body bytes

-- The error is the first one of the body.
abbrev pub IsBodyFault : List ℕ → HeaderFault → Type 0
IsBodyFault body (faults.File fault) = ⊥
IsBodyFault body (faults.Line fault) = (fault.reason ≢ OutOfMemory)
    × ((given : Option (List ℕ)) × FaultInDocument fault most (Some body) given)
IsBodyFault body faults.OutOfMemory = ⊤

-- The error is the first one of the file, or of the body if the file is valid.
abbrev pub IsHeaderFaultOf : List ℕ → List ℕ → HeaderFault → Type 0
IsHeaderFaultOf body bytes (faults.File fault) = decode_graph bytes ≡ Err fault
IsHeaderFaultOf body bytes (faults.Line fault) = ((graph : GraphParts) × IsLayout bytes graph)
    × IsBodyFault body (faults.Line fault)
IsHeaderFaultOf body bytes faults.OutOfMemory = ⊤

-- The error of opening a file, as an error of replacing its header.
abbrev pub header_fault_of : OpenFault → HeaderFault
header_fault_of (opens.Fault fault) = faults.File fault
header_fault_of opens.OutOfMemory = faults.OutOfMemory
