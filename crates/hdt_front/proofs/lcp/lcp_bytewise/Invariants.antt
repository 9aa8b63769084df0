use Rattle.std.proofs.Common.{◌≡◌, ◌≤◌, ◌+◌, ◌-◌, length, drop, nat_eq}
use Rattle.std.specs.List.{common_prefix_len}
use Rattle.hdt_front.proofs.lcp.lcp_bytewise.Given as goal

abbrev pub invariant-loop-len : goal.invariant-loop-len
invariant-loop-len l = record {
  in_a : l.len ≤ length l.a;
  in_b : l.len ≤ length l.b;
  so_far : l.len + common_prefix_len nat_eq (drop l.len l.a) (drop l.len l.b) ≡ common_prefix_len nat_eq l.a l.b;
}

abbrev pub decreases-loop-len : goal.decreases-loop-len
decreases-loop-len l = length l.a - l.len
