use Rattle.std.proofs.Common.{◌≤◌, ◌<◌, ◌+◌, ◌-◌, ℕ, length, slice_index}
use Rattle.hdt_seq.specs.Width.{digits}
use Rattle.hdt_triples.proofs.access.lower_bound.Given as goal

abbrev pub invariant-halves : goal.invariant-halves
invariant-halves l = record {
  order : l.low ≤ l.high;
  high : l.high ≤ length l.xs;
  below : (i : ℕ) → i < l.low → slice_index l.xs i < l.x;
  above : (i : ℕ) → l.high ≤ i → i < length l.xs → l.x ≤ slice_index l.xs i;
  cost : l.steps + digits (l.high - l.low) ≤ l.initial.steps + digits (length l.xs);
  more : l.initial.steps ≤ l.steps;
}

abbrev pub decreases-halves : goal.decreases-halves
decreases-halves l = l.high - l.low
