use Rattle.std.proofs.Common.{◌≡◌, ◌≤◌, ◌+◌, ◌-◌, ◌/◌}
use Rattle.hdt_seq.specs.RankSelect.{ones_before}
use Rattle.hdt_seq.specs.Bits.{bits_of}
use Rattle.hdt_seq.proofs.directory.ones_in_range.Given as goal

abbrev pub invariant-loop-at : goal.invariant-loop-at
invariant-loop-at l = record {
  from : l.from ≤ l.at;
  within : l.at ≤ l.to;
  counted : ones_before (bits_of l.bits) l.from + l.between ≡ ones_before (bits_of l.bits) l.at;
  cost : l.steps + (l.to - l.at + 63) / 64 ≤ l.fn.steps + (l.to - l.from + 63) / 64;
  more : l.fn.steps ≤ l.steps;
}

abbrev pub decreases-loop-at : goal.decreases-loop-at
decreases-loop-at l = l.to - l.at
