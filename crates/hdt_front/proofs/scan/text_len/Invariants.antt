use Rattle.std.proofs.Common.{◌≤◌, ◌-◌, length}
use Rattle.hdt_wire.specs.Checks.{len_before_zero}
use Rattle.hdt_front.proofs.scan.text_len.Given as goal

abbrev pub invariant-loop-at : goal.invariant-loop-at
invariant-loop-at l = record {
  inside : l.at ≤ length l.bytes;
  so_far : l.at ≤ len_before_zero l.bytes;
}

abbrev pub decreases-loop-at : goal.decreases-loop-at
decreases-loop-at l = length l.bytes - l.at
