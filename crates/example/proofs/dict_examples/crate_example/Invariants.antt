use Rattle.std.proofs.Common.{length}
use Rattle.example.proofs.dict_examples.crate_example.Given as goal

-- each iteration takes one of the remaining strings
abbrev pub decreases-loop-objects : goal.decreases-loop-objects
decreases-loop-objects l = length l.objects.ahead
