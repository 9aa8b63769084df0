use Rattle.std.proofs.Common.{ap, sym, ◌∙◌, drop}
use Rattle.std.proofs.lemmas.Option.{none-some}
use Rattle.hdt_triples.specs.IndexViews.{triples_indexed, triples_listed}
use Rattle.hdt_triples.specs.Views.{triples_view}
use Rattle.hdt_file.specs.Graph.{graph_view, parts_of_graph}
use Rattle.hdt_file.proofs.PagingLaws.{index_of_next}
use Rattle.hdt_file.proofs.graph.Graph.page.Goals as goal

pub returns-clause-next : goal.returns-clause-next
unfolding graph_view parts_of_graph
returns-clause-next c =
    let a = c.args in
    let k = index_of_next (triples_view (triples_listed a.self.now.triples))
    (triples_view (triples_indexed c.indexed.result.now)) a.pattern a.from a.most c.in-Some.triple _
    (ap triples_view c.indexed.ensures)
    (ap (drop a.most) (sym c.search_from-matches.ensures.items) ∙ sym c.in_ok-append_first.ensures.left
    ∙ c.in-Some.ensures.steps.0) in
    rw (c.index_of.ensures.only k.index k.within k.is) k.next

pub returns-clause-last : goal.returns-clause-last
unfolding graph_view parts_of_graph
returns-clause-last c = λ none.
    let a = c.args in
    let k = index_of_next (triples_view (triples_listed a.self.now.triples))
    (triples_view (triples_indexed c.indexed.result.now)) a.pattern a.from a.most c.in-Some.triple _
    (ap triples_view c.indexed.ensures)
    (ap (drop a.most) (sym c.search_from-matches.ensures.items) ∙ sym c.in_ok-append_first.ensures.left
    ∙ c.in-Some.ensures.steps.0) in
    absurd (none-some k.index (sym none ∙ c.index_of.ensures.only k.index k.within k.is))
