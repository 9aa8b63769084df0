use Rattle.std.proofs.Common.{◌∙◌, ◌++◌, List, ap, refl, sym}
use Rattle.hdt_triples.specs.Remaining.{remaining_matches}
use Rattle.hdt_triples.specs.TripleSequences.{Triple}
use Rattle.hdt_file.specs.Graph.{layout_view}
use Rattle.hdt_build.specs.Inside.WindowStrings.{strings_of_triples}
use Rattle.hdt_build.proofs.DenotedStrings.{matches_all}
use Rattle.hdt_build.proofs.WindowLaws.{goes_on}
use Rattle.hdt_build.proofs.layout_triples.collect_layout.Goals as goal

pub windows-init : goal.windows-init
windows-init g c =
    let graph = layout_view c.args.layout.now in
    record {
      window = c.in_ok-window.ensures c.args.prefix.now graph;
      sound = c.requires;
      added = λ _. ap (λ (ts : List Triple). g.C.Collector.triples c.args.collector.now
          ++ strings_of_triples c.args.prefix.now graph ts)
          (c.search-matches.ensures.items ∙ matches_all _ graph.triples refl refl refl);
    }

pub windows-preserved : goal.windows-preserved
windows-preserved g c = record {
  window = c.in_ok-collect_window.ensures.window;
  sound = c.in_ok-collect_window.ensures.sound;
  added = λ known. goes_on c.args.prefix.now (layout_view c.args.layout.now) (remaining_matches c.windows.matches)
      c.deref.result.now (remaining_matches c.take_matches.new.matches) _ _ _
      (c.in-Some.ensures.steps.0 ∙ (c.in_ok-take_matches.ensures.taken
      ∙ ap (λ (ts : List Triple). ts ++ remaining_matches c.take_matches.new.matches) (sym c.deref.ensures.value)))
      (c.windows.invariant.added known) (c.in_ok-collect_window.ensures.added known);
}
