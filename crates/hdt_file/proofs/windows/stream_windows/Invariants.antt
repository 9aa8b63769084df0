use Rattle.std.proofs.Common.{◌≡◌, ◌≤◌, ◌+◌, length, take}
use Rattle.std.specs.List.{filter}
use Rattle.hdt_triples.specs.Remaining.{remaining_matches}
use Rattle.hdt_wire.specs.Counted.{inner, failures}
use Rattle.hdt_file.specs.CachedTerms.{CachesTerms}
use Rattle.hdt_file.specs.Graph.{layout_view}
use Rattle.hdt_file.specs.Inside.WindowTerms.{HasWindowTerms}
use Rattle.hdt_file.specs.TermFlags.{is_writable}
use Rattle.hdt_file.specs.TextWriting.{limited}
use Rattle.hdt_file.specs.Writable.{skipped_among, skipped_before}
use Rattle.hdt_file.proofs.StreamingLaws.{ContinuesStream}
use Rattle.hdt_file.proofs.windows.stream_windows.Given as goal

abbrev pub invariant-windows : goal.invariant-windows
invariant-windows g l =
    record {
      cached : CachesTerms (layout_view l.layout) l.term_writer;
      window : HasWindowTerms (layout_view l.layout) l.window;
      goes_on : ContinuesStream (layout_view l.layout)
          (limited l.fn.most (filter (is_writable l.flags) (remaining_matches l.fn.found)))
          (take l.left (filter (is_writable l.flags) (remaining_matches l.matches))) l.fn.pending l.pending
          (g.W.Write.contents (inner l.fn.out)) (g.W.Write.contents (inner l.out)) (failures l.fn.out)
          (failures l.out);
      skipped : skipped_among (is_writable l.flags) l.fn.most (remaining_matches l.fn.found)
          ≡ l.skipped + skipped_before (is_writable l.flags) l.left (remaining_matches l.matches);
      bound : l.skipped + length (remaining_matches l.matches) ≤ length (remaining_matches l.fn.found);
    }

abbrev pub decreases-windows : goal.decreases-windows
decreases-windows g l = l.left
