-- The matches of the pattern of the given strings.
use Rattle.hdt_file.specs.Graph.{graph_view}
use Rattle.hdt_c.proofs.MatchLaws.{are_matches}
use Rattle.hdt_c.proofs.finding.pattern_of.Goals as goal

pub returns : goal.returns
returns c = are_matches (graph_view c.args.graph.now) c.pattern.result _ c.pattern.ensures.exact
