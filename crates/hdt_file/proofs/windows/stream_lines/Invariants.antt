use Rattle.std.proofs.Common.{length}
use Rattle.hdt_wire.specs.Counted.{inner, failures}
use Rattle.hdt_file.specs.CachedTerms.{CachesTerms}
use Rattle.hdt_file.specs.Graph.{layout_view}
use Rattle.hdt_file.specs.Writable.{AreWritableTriples}
use Rattle.hdt_file.proofs.StreamingLaws.{ContinuesStream}
use Rattle.hdt_file.proofs.windows.stream_lines.Given as goal

abbrev pub invariant-batches : goal.invariant-batches
invariant-batches g l =
    record {
      cached : CachesTerms (layout_view l.layout) l.term_writer;
      lines : AreWritableTriples (layout_view l.layout) l.unwritten;
      goes_on : ContinuesStream (layout_view l.layout) l.triples l.unwritten l.fn.pending l.pending
          (g.W.Write.contents (inner l.fn.out)) (g.W.Write.contents (inner l.out)) (failures l.fn.out)
          (failures l.out);
    }

abbrev pub decreases-batches : goal.decreases-batches
decreases-batches g l = length l.unwritten
