-- The text is that of a page of the graph of the handle.
use Rattle.std.proofs.Common.{subst}
use Rattle.hdt_file.specs.Graph.{graph_view}
use Rattle.hdt_file.specs.declared.graph.Graph.{Graph}
use Rattle.hdt_c.specs.GivenPatterns.{IsGivenPattern}
use Rattle.hdt_c.specs.Pages.{PatternSatisfies}
use Rattle.hdt_c.specs.PageTexts.{ReportsPageText}
use Rattle.hdt_c.proofs.HandleLaws.{same_graph}
use Rattle.hdt_c.proofs.PageLaws.{of_given}
use Rattle.hdt_c.proofs.paging.hdt_page_text.Goals as goal

pub returns-in-Some-clause-exact : goal.returns-in-Some-clause-exact
returns-in-Some-clause-exact c = λ g h.
    let a = c.put_page_text in
    subst (λ (graph : Graph). PatternSatisfies (IsGivenPattern (graph_view graph) c.args.pattern.now)
    (ReportsPageText (graph_view graph) c.args.from c.args.most a.new.next a.new.out a.result))
    (same_graph c.args.graph.now.resource.value c.in-Some.taken.value c.graph_ref-opened.result.now g
    c.in-Some.ensures.taken.1 c.graph_ref-opened.ensures h.1)
    (of_given c.ids_of_parts-given.result _
    (ReportsPageText (graph_view c.graph_ref-opened.result.now) c.args.from c.args.most a.new.next a.new.out
    a.result) c.ids_of_parts-given.ensures a.ensures)
