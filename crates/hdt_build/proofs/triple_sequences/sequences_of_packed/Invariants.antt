use Rattle.std.proofs.Common.{length}
use Rattle.hdt_build.specs.Inside.Sequences.{HavePushed}
use Rattle.hdt_build.proofs.triple_sequences.sequences_of_packed.Given as goal

abbrev pub invariant-triples : goal.invariant-triples
invariant-triples l = HavePushed l.fn.triples l.made l.reader

abbrev pub decreases-triples : goal.decreases-triples
decreases-triples l = length l.reader
