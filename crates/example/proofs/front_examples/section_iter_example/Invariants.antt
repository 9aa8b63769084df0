use Rattle.std.proofs.Common.{length}
use Rattle.example.proofs.front_examples.section_iter_example.Given as goal

-- each iteration takes one of the remaining strings
abbrev pub decreases-loop-strings : goal.decreases-loop-strings
decreases-loop-strings l = length l.strings.ahead
