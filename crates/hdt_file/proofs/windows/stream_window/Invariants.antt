use Rattle.std.proofs.Common.{length}
use Rattle.hdt_wire.specs.Counted.{inner, failures}
use Rattle.hdt_file.specs.CachedTerms.{CachesTerms}
use Rattle.hdt_file.specs.Graph.{layout_view}
use Rattle.hdt_file.specs.Inside.WindowTerms.{HasWindowTerms}
use Rattle.hdt_file.specs.Writable.{AreWritableTriples}
use Rattle.hdt_file.proofs.StreamingLaws.{ContinuesStream}
use Rattle.hdt_file.proofs.windows.stream_window.Given as goal

abbrev pub invariant-parts : goal.invariant-parts
invariant-parts g l =
    record {
      cached : CachesTerms (layout_view l.layout) l.term_writer;
      window : HasWindowTerms (layout_view l.layout) l.window;
      lines : AreWritableTriples (layout_view l.layout) l.rest;
      goes_on : ContinuesStream (layout_view l.layout) l.triples l.rest l.fn.pending l.pending
          (g.W.Write.contents (inner l.fn.out)) (g.W.Write.contents (inner l.out)) (failures l.fn.out)
          (failures l.out);
    }

abbrev pub decreases-parts : goal.decreases-parts
decreases-parts g l = length l.rest
