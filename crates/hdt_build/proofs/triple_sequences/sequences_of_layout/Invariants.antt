use Rattle.std.proofs.Common.{length}
use Rattle.hdt_triples.specs.Remaining.{remaining_matches}
use Rattle.hdt_file.specs.Graph.{layout_view}
use Rattle.hdt_build.specs.Inside.Sequences.{HavePushed}
use Rattle.hdt_build.proofs.triple_sequences.sequences_of_layout.Given as goal

abbrev pub invariant-triples : goal.invariant-triples
invariant-triples l = HavePushed (layout_view l.layout).triples l.made (remaining_matches l.triples)

abbrev pub decreases-triples : goal.decreases-triples
decreases-triples l = length (remaining_matches l.triples)
