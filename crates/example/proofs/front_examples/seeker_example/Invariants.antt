use Rattle.std.proofs.Common.{◌≡◌}
use Rattle.example.proofs.front_examples.seeker_example.Given as goal

-- the seeker stays that of the section
abbrev pub invariant-loop-id : goal.invariant-loop-id
invariant-loop-id l = l.seeker.section ≡ l.section
