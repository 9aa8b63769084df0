use Rattle.std.proofs.Common.{◌≡◌, ◌<◌, ℕ, false, get_or, true}
use Rattle.hdt_build.proofs.file_batch.are_set.Given as goal

abbrev pub invariant-loop-at : goal.invariant-loop-at
invariant-loop-at l = (k : ℕ) → k < l.at → get_or l.flags k false ≡ true
