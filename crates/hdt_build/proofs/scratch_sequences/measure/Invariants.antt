use Rattle.std.proofs.Common.{length}
use Rattle.hdt_build.specs.declared.triple_entries.Sequence.TheVariants.{Predicates, Objects}
use Rattle.hdt_build.specs.Inside.ScratchSequences.{HaveMeasured}
use Rattle.hdt_build.specs.Inside.TripleEntries.{entries_of}
use Rattle.hdt_build.proofs.scratch_sequences.measure.Given as goal

abbrev pub invariant-triples : goal.invariant-triples
invariant-triples g l = record {
  predicates : g.S.Scratch.IsKnown
      → HaveMeasured (entries_of Predicates l.fn.triples) (entries_of Predicates l.rest) l.predicates;
  objects : g.S.Scratch.IsKnown → HaveMeasured (entries_of Objects l.fn.triples) (entries_of Objects l.rest) l.objects;
}

abbrev pub decreases-triples : goal.decreases-triples
decreases-triples g l = length l.rest
