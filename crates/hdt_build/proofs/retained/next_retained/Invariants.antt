use Rattle.std.proofs.Common.{ℕ, ◌+◌, ◌<◌, ◌≤◌}
use Rattle.hdt_file.specs.Graph.{graph_view}
use Rattle.hdt_build.specs.Inside.Rewriting.{RetainsId}
use Rattle.hdt_build.proofs.retained.next_retained.Given as goal

abbrev pub invariant-loop-index : goal.invariant-loop-index
invariant-loop-index l = record {
  passed : (k : ℕ) → l.from ≤ k → k < l.index → RetainsId (graph_view l.graph) l.section (k + 1) → ⊥;
}
