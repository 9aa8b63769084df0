use Rattle.std.proofs.Common.{◌≤◌}
use Rattle.hdt_front.proofs.decode.character_start.Given as goal

abbrev pub invariant-loop-at : goal.invariant-loop-at
invariant-loop-at l = l.at ≤ l.place

abbrev pub decreases-loop-at : goal.decreases-loop-at
decreases-loop-at l = l.at
