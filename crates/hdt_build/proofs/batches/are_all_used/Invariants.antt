use Rattle.std.proofs.Common.{ℕ, ◌<◌}
use Rattle.hdt_build.specs.Inside.Batches.{IsUsedIndex}
use Rattle.hdt_build.proofs.batches.are_all_used.Given as goal

abbrev pub invariant-loop-at : goal.invariant-loop-at
invariant-loop-at l = (k : ℕ) → k < l.at → IsUsedIndex l.triples k
