use Rattle.hdt_file.specs.Graph.{graph_view}
use Rattle.hdt_tool.proofs.merging.add_file.Goals as goal

pub returns-clause-ok : goal.returns-clause-ok
returns-clause-ok g c = record {
  bytes = c.in_ok-bytes.bytes.items;
  read = c.in_ok-bytes.ensures.ok;
  holds = record {
    graph = graph_view c.in_ok-graph.graph;
    encoded = rw c.deref.ensures.value at c.in_ok-graph.ensures.found;
    holds = rw (c.as_slice.ensures.value, c.in_ok-prefix.ensures.is) at c.in_ok-with_prefix.ensures.added;
  };
}
