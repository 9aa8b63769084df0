use Rattle.std.proofs.Common.{◌∙◌, Ok, ap, arith, subst, sym}
use Rattle.hdt_file.specs.File.{IsLayout}
use Rattle.hdt_file.specs.File.{FileParts}
use Rattle.hdt_file.specs.Graph.{graph_view}
use Rattle.hdt_file.proofs.NonTermLaws.{verdict_is}
use Rattle.hdt_file.proofs.non_terms.verify_tight_terms.Goals as goal

pub returns-clause-found : goal.returns-clause-found
returns-clause-found c =
    let bytes = c.args.bytes.now in
    let e = c.in_ok-term_verdict.ensures in
    let graph = c.in_ok-graph.ensures in
    verdict_is bytes c.layout.result c.in_ok-term_verdict.field-0 (λ i. omega (arith, c.type_inv.bytes i))
    (omega arith) (subst (IsLayout bytes) (sym c.layout.ensures.seen) graph.found.layout)
    (graph.parts ∙ ap (λ (p : FileParts). Ok p) (sym c.layout.ensures.parts)) e.counts e.found

pub returns-clause-tight : goal.returns-clause-tight
returns-clause-tight c = (graph_view c.in_ok-graph.graph, c.in_ok-graph.ensures.found)
