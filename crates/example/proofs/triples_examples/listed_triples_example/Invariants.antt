use Rattle.std.proofs.Common.{length}
use Rattle.hdt_triples.specs.Remaining.{remaining_matches}
use Rattle.example.proofs.triples_examples.listed_triples_example.Given as goal

-- each iteration takes one of the remaining matches
abbrev pub decreases-loop-object : goal.decreases-loop-object
decreases-loop-object l = length (remaining_matches l.object-iterator)
