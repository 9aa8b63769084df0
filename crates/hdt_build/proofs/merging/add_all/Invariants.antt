use Rattle.std.proofs.Common.{◌≡◌, ◌≤◌, length, map, take}
use Rattle.hdt_file.specs.Graph.{graph_view}
use Rattle.hdt_build.specs.Layouts.{union_of}
use Rattle.hdt_build.proofs.merging.add_all.Given as goal

abbrev pub invariant-loop-graph : goal.invariant-loop-graph
invariant-loop-graph l = record {
  union : l.merger ≡ union_of (map graph_view (take l.graph-index l.graphs));
  some : l.graph-index ≤ length l.merger;
}
