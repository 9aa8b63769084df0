-- The strings are those of the graph of the handle.
use Rattle.std.proofs.Common.{subst}
use Rattle.hdt_file.specs.Graph.{graph_view}
use Rattle.hdt_file.specs.declared.graph.Graph.{Graph}
use Rattle.hdt_c.specs.LookUps.{role_by_number}
use Rattle.hdt_c.specs.StringLists.{ReturnsStrings}
use Rattle.hdt_c.proofs.HandleLaws.{same_graph}
use Rattle.hdt_c.proofs.strings.hdt_strings.Goals as goal

pub returns-in-Some-clause-exact : goal.returns-in-Some-clause-exact
returns-in-Some-clause-exact c = λ g h.
    let a = c.put_strings-answer in
    subst (λ (graph : Graph). ReturnsStrings (graph_view graph)
    (role_by_number c.args.role) c.args.numbers.now a.result a.new.out c.args.ends.now a.new.buffer)
    (same_graph c.args.graph.now.resource.value c.in-Some.taken.value c.graph_ref.result.now g c.in-Some.ensures.taken.1
    c.graph_ref.ensures h.1)
    a.ensures
