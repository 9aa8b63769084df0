use Rattle.std.proofs.Common.{ℕ, ◌<◌, ◌≤◌, slice_index}
use Rattle.hdt_dict.proofs.string_batch.are_ids.Given as goal

abbrev pub invariant-loop-at : goal.invariant-loop-at
invariant-loop-at l = (i : ℕ) → i < l.at → (1 ≤ slice_index l.ids i) × (slice_index l.ids i ≤ l.count)
