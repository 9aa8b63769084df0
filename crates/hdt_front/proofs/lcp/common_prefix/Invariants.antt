use Rattle.std.proofs.Common.{◌≤◌, ◌-◌, nat_eq}
use Rattle.std.specs.List.{common_prefix_len}
use Rattle.hdt_front.proofs.lcp.common_prefix.Given as goal

abbrev pub invariant-loop-at : goal.invariant-loop-at
invariant-loop-at l = record {
  inside : l.at ≤ l.least;
  so_far : l.at ≤ common_prefix_len nat_eq l.a l.b;
}

abbrev pub decreases-loop-at : goal.decreases-loop-at
decreases-loop-at l = l.least - l.at
