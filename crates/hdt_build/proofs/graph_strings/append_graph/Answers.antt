use Rattle.hdt_file.specs.Graph.{graph_view}
use Rattle.hdt_wire.specs.declared.Role.TheVariants.{Subject, Predicate}
use Rattle.hdt_build.proofs.GraphIndices.{later_indices}
use Rattle.hdt_build.proofs.IndexTriples.{goes_on}
use Rattle.hdt_build.proofs.graph_strings.append_graph.Goals as goal

pub returns-clause-maps : goal.returns-clause-maps
returns-clause-maps c =
    let g = graph_view c.args.graph.now in
    let s = c.in_ok-subjects.ensures in
    let p = c.in_ok-predicates.ensures in
    let o = c.in_ok-objects.ensures in
    record {
      subjects = later_indices c.args.prefix.now g Subject _ _ _ s.indices (goes_on _ _ _ p.list o.list);
      predicates = later_indices c.args.prefix.now g Predicate _ _ _ p.indices o.list;
      objects = o.indices;
    }

pub returns-clause-list : goal.returns-clause-list
returns-clause-list c =
    goes_on _ _ _ c.in_ok-subjects.ensures.list
    (goes_on _ _ _ c.in_ok-predicates.ensures.list c.in_ok-objects.ensures.list)
