-- The matches after the first ones are those from a triple on.
use Rattle.std.proofs.Common.{◌∙◌}
use Rattle.hdt_file.specs.Graph.{graph_view}
use Rattle.hdt_file.proofs.SkippingLaws.{skip_all, skip_consecutive, skip_none}
use Rattle.hdt_file.proofs.graph.Graph.search_at.Goals as goal

pub returns-in_default-clause-items : goal.returns-in_default-clause-items
returns-in_default-clause-items c =
    c.search_from.ensures.items
    ∙ skip_none (graph_view c.args.self.now).triples c.args.pattern c.len-len.result c.args.skip c.len-len.ensures
    (c.first_match.ensures.none c.in_default.is)

pub returns-then-skip-len-clause-items : goal.returns-then-skip-len-clause-items
returns-then-skip-len-clause-items c =
    c.search_from-then-skip-len.ensures.items
    ∙ skip_all (graph_view c.args.self.now).triples c.args.pattern c.requires c.is_graph.ensures.ascend c.len-len.result
    c.in-Some.first c.args.skip c.len-len.ensures c.in-Some.ensures.is c.if-skip-len.true

pub returns-clause-items : goal.returns-clause-items
returns-clause-items c =
    c.search_from-2.ensures.items
    ∙ skip_consecutive (graph_view c.args.self.now).triples c.args.pattern c.requires c.is_graph.ensures.ascend
    c.in-Some.first c.args.skip c.in-Some.ensures.is
