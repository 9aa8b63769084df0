use Rattle.hdt_file.specs.CachedTerms.{CachesTerms}
use Rattle.hdt_file.specs.Graph.{graph_view}
use Rattle.hdt_probe_graph.proofs.texts.append_all.Given as goal

abbrev pub invariant-texts : goal.invariant-texts
invariant-texts l = CachesTerms (graph_view l.graph) l.term_writer
