use Rattle.std.proofs.Common.{◌≡◌, ◌<◌, ℕ, [], get_or}
use Rattle.hdt_build.proofs.record_merging.are_done.Given as goal

abbrev pub invariant-loop-at : goal.invariant-loop-at
invariant-loop-at g l = (b : ℕ) → b < l.at → get_or l.cursors b [] ≡ []
