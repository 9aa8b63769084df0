-- The first match is at an index.
use Rattle.std.proofs.Common.{ap, sym, ◌∙◌}
use Rattle.std.proofs.lemmas.Option.{none-some}
use Rattle.hdt_triples.specs.IndexViews.{triples_indexed, triples_listed}
use Rattle.hdt_triples.specs.Views.{triples_view}
use Rattle.hdt_file.specs.Graph.{graph_view, parts_of_graph}
use Rattle.hdt_file.proofs.PagingLaws.{index_of_next}
use Rattle.hdt_file.proofs.graph.Graph.first_match.Goals as goal

pub returns-clause-is : goal.returns-clause-is
unfolding graph_view parts_of_graph
returns-clause-is c =
    let k = index_of_next (triples_view (triples_listed c.args.self.now.triples))
    (triples_view (triples_indexed c.indexed.result.now)) c.args.pattern 0 0 c.in_ok-triple.triple _
    (ap triples_view c.indexed.ensures)
    (sym c.search.ensures.items ∙ c.in_ok-triple.ensures.steps.0) in
    rw (c.index_of.ensures.only k.index k.within k.is) k.next

pub returns-clause-none : goal.returns-clause-none
unfolding graph_view parts_of_graph
returns-clause-none c = λ none.
    let k = index_of_next (triples_view (triples_listed c.args.self.now.triples))
    (triples_view (triples_indexed c.indexed.result.now)) c.args.pattern 0 0 c.in_ok-triple.triple _
    (ap triples_view c.indexed.ensures)
    (sym c.search.ensures.items ∙ c.in_ok-triple.ensures.steps.0) in
    absurd (none-some k.index (sym none ∙ c.index_of.ensures.only k.index k.within k.is))
