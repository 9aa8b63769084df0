use Rattle.std.proofs.Common.{drop}
use Rattle.hdt_wire.specs.Counted.{inner, failures}
use Rattle.hdt_file.specs.CachedTerms.{CachesTerms}
use Rattle.hdt_file.specs.Graph.{layout_view}
use Rattle.hdt_file.proofs.StreamingLaws.{ContinuesStream}
use Rattle.hdt_file.proofs.windows.stream_batch.Given as goal

abbrev pub invariant-triples : goal.invariant-triples
invariant-triples g l =
    record {
      cached : CachesTerms (layout_view l.layout) l.term_writer;
      goes_on : ContinuesStream (layout_view l.layout) l.triples (drop l.at l.triples) l.fn.pending l.pending
          (g.W.Write.contents (inner l.fn.out)) (g.W.Write.contents (inner l.out)) (failures l.fn.out)
          (failures l.out);
    }
