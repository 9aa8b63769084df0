use Rattle.std.proofs.Common.{◌≡◌, ◌++◌, length}
use Rattle.hdt_triples.specs.Remaining.{remaining_matches}
use Rattle.hdt_file.specs.Graph.{layout_view}
use Rattle.hdt_build.specs.Inside.WindowStrings.{HasWindowStrings, strings_of_triples}
use Rattle.hdt_build.specs.Layouts.{denoted_by}
use Rattle.hdt_build.specs.Relabelling.{relabelled_triples}
use Rattle.hdt_build.proofs.layout_triples.collect_layout.Given as goal

abbrev pub invariant-windows : goal.invariant-windows
invariant-windows g l =
    let graph = layout_view l.layout in
    record {
      window : HasWindowStrings l.prefix graph l.window;
      sound : g.C.Collector.IsSound l.collector;
      added : g.C.Collector.IsKnown
          → g.C.Collector.triples l.collector ++ strings_of_triples l.prefix graph (remaining_matches l.matches)
          ≡ g.C.Collector.triples l.fn.collector ++ relabelled_triples l.prefix (denoted_by graph);
    }

abbrev pub decreases-windows : goal.decreases-windows
decreases-windows g l = length (remaining_matches l.matches)
