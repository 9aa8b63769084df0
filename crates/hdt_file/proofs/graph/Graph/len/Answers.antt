use Rattle.std.proofs.Common.{◌∙◌, ap, length, sym}
use Rattle.hdt_triples.specs.Laws.TripleSequences.{length-triples}
use Rattle.hdt_triples.specs.IndexViews.{triples_listed}
use Rattle.hdt_triples.specs.Views.{triples_view}
use Rattle.hdt_file.specs.Graph.{graph_view, parts_of_graph}
use Rattle.hdt_file.proofs.graph.Graph.len.Goals as goal

pub returns : goal.returns
unfolding graph_view parts_of_graph
returns c = c.len.ensures ∙ ap (λ t. length (triples_view t).array_z) c.triples.ensures
    ∙ sym (length-triples (triples_view (triples_listed c.args.self.now.triples)))
