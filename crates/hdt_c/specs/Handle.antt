-- Handles of graphs.
use denote.RawPtr.{null_ptr}
use Rattle.std.specs.Prelude.{◌≡◌, ◌≢◌, ℕ, List, None, Some}
use Rattle.hdt_file.specs.declared.graph.Graph.{Graph}
use Rattle.hdt_file.specs.File.{GraphParts, IsLayout}
use Rattle.hdt_file.specs.Graph.{graph_view}
use Rattle.hdt_c.specs.declared.handle.HdtGraph.{HdtGraph}
use Rattle.hdt_c.specs.Inside.ResourceKind.{graph_of}

-- the graph is open
abbrev pub IsOpen : HdtGraph → Type 0
IsOpen h = h.state ≡ 1

-- the graph is closed
abbrev pub IsClosed : HdtGraph → Type 0
IsClosed h = h.state ≢ 1

-- the handle is zeroed: all fields are zero
pub record IsZeroed (h : HdtGraph) : Type 0 where
  pub state : h.state ≡ 0
  pub at : h.resource.at ≡ null_ptr
  pub resource : h.resource.value ≡ None

-- the handle is open, and has this graph
abbrev pub HoldsGraph : HdtGraph → Graph → Type 0
HoldsGraph h g = IsOpen h × (graph_of h.resource.value ≡ Some g)

-- if the handle is open, P is true of its graph
abbrev pub IfOpen : HdtGraph → (GraphParts → Type 0) → Type 0
IfOpen h P = (g : Graph) → HoldsGraph h g → P (graph_view g)

-- the handle is open or closed as before, and has the same graph
abbrev pub SameGraph : HdtGraph → HdtGraph → Type 0
SameGraph old new = (new.state ≡ old.state) × (graph_of new.resource.value ≡ graph_of old.resource.value)

-- the handle is open, and has the graph that the bytes encode
pub record IsOpened (bytes : List ℕ) (h : HdtGraph) : Type 0 where
  pub graph : Graph
  pub resource : HoldsGraph h graph
  pub is : IsLayout bytes (graph_view graph)
