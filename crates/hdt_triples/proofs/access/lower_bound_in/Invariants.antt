use Rattle.std.proofs.Common.{◌≤◌, ◌<◌, ◌+◌, ◌-◌, ℕ, slice_index}
use Rattle.hdt_seq.specs.Width.{digits}
use Rattle.hdt_seq.specs.Numbers.{numbers_of}
use Rattle.hdt_triples.proofs.access.lower_bound_in.Given as goal

abbrev pub invariant-halves : goal.invariant-halves
invariant-halves l = record {
  order : l.low ≤ l.high;
  low : l.from ≤ l.low;
  high : l.high ≤ l.to;
  below : (i : ℕ) → l.from ≤ i → i < l.low → slice_index (numbers_of l.xs) i < l.x;
  above : (i : ℕ) → l.high ≤ i → i < l.to → l.x ≤ slice_index (numbers_of l.xs) i;
  cost : l.steps + digits (l.high - l.low) ≤ l.initial.steps + digits (l.to - l.from);
  more : l.initial.steps ≤ l.steps;
}

abbrev pub decreases-halves : goal.decreases-halves
decreases-halves l = l.high - l.low
