use Rattle.std.proofs.Common.{◌≡◌, ◌≤◌, ◌<◌, ◌+◌, ◌-◌, length, slice_index}
use Rattle.hdt_seq.specs.Width.{digits}
use Rattle.hdt_seq.specs.Directory.{stored_counts}
use Rattle.hdt_seq.proofs.directory.Directory.find_group.Given as goal

abbrev pub invariant-loop-high : goal.invariant-loop-high
invariant-loop-high l = record {
  apart : l.low < l.high;
  inside : l.high < length (stored_counts l.self);
  before_is : l.before ≡ slice_index (stored_counts l.self) l.low;
  before : l.before < l.k;
  through : l.k ≤ slice_index (stored_counts l.self) l.high;
  cost : l.steps + digits (l.high - l.low - 1) ≤ l.fn.steps + digits (length (stored_counts l.self) - 2);
  more : l.fn.steps ≤ l.steps;
}

abbrev pub decreases-loop-high : goal.decreases-loop-high
decreases-loop-high l = l.high - l.low
