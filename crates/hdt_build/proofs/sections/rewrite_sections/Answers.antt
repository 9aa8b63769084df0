use Rattle.hdt_file.specs.Graph.{graph_view}
use Rattle.hdt_build.proofs.RewrittenSections.{are_rewritten}
use Rattle.hdt_build.proofs.sections.rewrite_sections.Goals as goal

pub returns-clause-rewritten : goal.returns-clause-rewritten
returns-clause-rewritten c =
    let n = c.len-count.ensures in
    are_rewritten (graph_view c.args.graph.now) c.is_graph.ensures _ _ _ _ _ _ _ _ _ _ _
    c.in_ok-shared.ensures.rewritten (rw n at c.in_ok-subjects.ensures.rewritten) c.in_ok-predicates.ensures.rewritten
    (rw n at c.in_ok-objects.ensures.rewritten)
    (rw c.as_slice.ensures.value at c.in_ok-o.ensures.shared) _ c.in_ok-subjects.ensures.long
    c.in_ok-predicates.ensures.long c.in_ok-objects.ensures.long
    c.id_map_of.ensures c.id_map_of-2.ensures c.id_map_of-3.ensures
