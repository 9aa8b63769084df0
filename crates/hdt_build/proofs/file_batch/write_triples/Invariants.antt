use Rattle.std.proofs.Common.{length}
use Rattle.hdt_triples.specs.Remaining.{remaining_matches}
use Rattle.hdt_file.specs.Graph.{layout_view}
use Rattle.hdt_build.specs.Inside.Batches.{indices_of}
use Rattle.hdt_build.proofs.FileBatches.{IsWriting}
use Rattle.hdt_build.proofs.file_batch.write_triples.Given as goal

abbrev pub invariant-triples : goal.invariant-triples
invariant-triples g l = IsWriting (indices_of l.predicates l.subjects) (layout_view l.layout).triples
    (remaining_matches l.matches) g.S.Scratch.IsKnown l.out l.used.items l.count

abbrev pub decreases-triples : goal.decreases-triples
decreases-triples g l = length (remaining_matches l.matches)
