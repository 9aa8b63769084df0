use Rattle.std.proofs.Common.{◌≡◌, ◌++◌, length}
use Rattle.hdt_file.specs.Graph.{layout_view}
use Rattle.hdt_build.specs.Inside.WindowStrings.{strings_of_triples}
use Rattle.hdt_build.proofs.layout_triples.collect_part.Given as goal

abbrev pub invariant-triples : goal.invariant-triples
invariant-triples g l =
    record {
      sound : g.C.Collector.IsSound l.collector;
      added : g.C.Collector.IsKnown
          → g.C.Collector.triples l.collector ++ strings_of_triples l.prefix (layout_view l.layout) l.rest
          ≡ g.C.Collector.triples l.fn.collector ++ strings_of_triples l.prefix (layout_view l.layout) l.triples;
    }

abbrev pub decreases-triples : goal.decreases-triples
decreases-triples g l = length l.rest
