use Rattle.std.proofs.Common.{◌≤◌, ◌-◌, length}
use Rattle.hdt_front.specs.Inside.LoadRuns.{ascii_run}
use Rattle.hdt_front.proofs.scan.ascii_len.Given as goal

abbrev pub invariant-loop-at : goal.invariant-loop-at
invariant-loop-at l = record {
  inside : l.at ≤ length l.bytes;
  so_far : l.at ≤ ascii_run l.bytes;
}

abbrev pub decreases-loop-at : goal.decreases-loop-at
decreases-loop-at l = length l.bytes - l.at
