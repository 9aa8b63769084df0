-- The page is that of the graph of the handle.
use Rattle.std.proofs.Common.{subst}
use Rattle.hdt_file.specs.Graph.{graph_view}
use Rattle.hdt_file.specs.declared.graph.Graph.{Graph}
use Rattle.hdt_c.specs.GivenPatterns.{IsGivenPattern}
use Rattle.hdt_c.specs.Pages.{PutsPage, ReturnsPage}
use Rattle.hdt_c.proofs.HandleLaws.{same_graph}
use Rattle.hdt_c.proofs.PageLaws.{of_given}
use Rattle.hdt_c.proofs.paging.hdt_page.Goals as goal

pub returns-in-Some-clause-exact : goal.returns-in-Some-clause-exact
returns-in-Some-clause-exact c = λ g h.
    let a = c.put_page-answer in
    subst (λ (graph : Graph). ReturnsPage (graph_view graph)
    (IsGivenPattern (graph_view graph) c.args.pattern.now) c.args.from a.result a.new.next c.args.out.now
    a.new.buffer)
    (same_graph c.args.graph.now.resource.value c.in-Some.taken.value c.graph_ref-opened.result.now g
    c.in-Some.ensures.taken.1 c.graph_ref-opened.ensures h.1)
    (of_given c.ids_of_parts.result _
    (λ o. PutsPage (graph_view c.graph_ref-opened.result.now) o c.args.from a.result a.new.next c.args.out.now
    a.new.buffer) c.ids_of_parts.ensures a.ensures)
