-- The matches of the pattern of the given parts.
use Rattle.hdt_file.specs.Graph.{graph_view}
use Rattle.hdt_c.proofs.MatchLaws.{are_matches}
use Rattle.hdt_c.proofs.pattern.pattern_of_parts.Goals as goal

pub returns : goal.returns
returns c = are_matches (graph_view c.args.graph.now) c.ids_of_parts.result _ c.ids_of_parts.ensures
