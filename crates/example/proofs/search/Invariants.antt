use Rattle.std.proofs.Common.{length}
use Rattle.hdt_triples.specs.Remaining.{remaining_matches}
use Rattle.example.proofs.search.Given as goal

-- each iteration takes one of the remaining matches
abbrev pub decreases-loop-subject : goal.decreases-loop-subject
decreases-loop-subject l = length (remaining_matches l.subject-iterator)
