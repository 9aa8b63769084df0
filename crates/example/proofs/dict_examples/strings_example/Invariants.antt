use Rattle.std.proofs.Common.{length}
use Rattle.example.proofs.dict_examples.strings_example.Given as goal

-- each iteration takes one of the remaining strings
abbrev pub decreases-loop-subjects : goal.decreases-loop-subjects
decreases-loop-subjects l = length l.subjects.ahead
