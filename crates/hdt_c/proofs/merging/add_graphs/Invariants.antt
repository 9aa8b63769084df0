use Rattle.std.proofs.Common.{◌≡◌, ◌≤◌, ◌-◌, [], length, take}
use Rattle.hdt_c.specs.Merging.{SameGraphs, merged_triples}
use Rattle.hdt_c.proofs.merging.add_graphs.Given as goal

-- the graphs so far are added
abbrev pub invariant-graphs : goal.invariant-graphs
invariant-graphs l = record {
  within : l.at ≤ length l.graphs;
  added : l.merger ≡ merged_triples l.fn.apart (take l.at l.fn.graphs);
  none : l.merger ≡ [] → l.at ≡ 0;
  kept : SameGraphs l.fn.graphs l.graphs;
}

abbrev pub decreases-graphs : goal.decreases-graphs
decreases-graphs l = length l.graphs - l.at
