use Rattle.hdt_file.specs.CachedTerms.{CachesTerms}
use Rattle.hdt_file.specs.Graph.{graph_view}
use Rattle.hdt_probe_graph.proofs.texts.append_pages.Given as goal

abbrev pub invariant-pages : goal.invariant-pages
invariant-pages l = CachesTerms (graph_view l.graph) l.term_writer
