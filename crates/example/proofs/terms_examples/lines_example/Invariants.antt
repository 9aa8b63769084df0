use Rattle.std.proofs.Common.{◌≡◌, ◌-◌, None}
use Rattle.example.proofs.terms_examples.lines_example.Given as goal

-- no line so far had an error
abbrev pub invariant-loop-lines : goal.invariant-loop-lines
invariant-loop-lines l = l.lines.failed ≡ None

-- each iteration takes some of the bytes that the limit leaves
abbrev pub decreases-loop-lines : goal.decreases-loop-lines
decreases-loop-lines l = l.lines.limit - l.lines.taken
