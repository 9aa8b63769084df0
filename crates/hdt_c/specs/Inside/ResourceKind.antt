-- Whether a handle has a graph or bytes.
use Rattle.std.specs.Prelude.{Option, Some, None, Bool, true, false}
use Rattle.std.specs.Arc.{arc_value}
use Rattle.hdt_file.specs.declared.graph.Graph as files
use Rattle.hdt_c.specs.declared.handle.Resource.{Resource}
use Rattle.hdt_c.specs.declared.handle.Resource.TheVariants.{Graph, Bytes}

-- the graph that the value has a share of
abbrev pub graph_of : Option Resource → Option files.Graph
graph_of None = None
graph_of (Some (Graph share)) = Some (arc_value share)
graph_of (Some (Bytes v)) = None

-- whether the value is a graph
abbrev pub is_graph : Option Resource → Bool
is_graph None = false
is_graph (Some (Graph g)) = true
is_graph (Some (Bytes v)) = false

-- whether the value is bytes
abbrev pub is_bytes : Option Resource → Bool
is_bytes None = false
is_bytes (Some (Graph g)) = false
is_bytes (Some (Bytes v)) = true
