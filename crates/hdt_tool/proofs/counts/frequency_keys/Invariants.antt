use Rattle.std.proofs.Common.{◌≡◌, map}
use Rattle.std.specs.List.{range_with_len}
use Rattle.hdt_file.specs.Graph.{graph_view}
use Rattle.hdt_tool.specs.Inside.FrequencyKeys.{CountsFit, frequency_key}
use Rattle.hdt_tool.proofs.counts.frequency_keys.Given as goal

-- The keys of the first IDs.
abbrev pub invariant-numbers : goal.invariant-numbers
invariant-numbers l = (l.keys.items ≡ map (frequency_key (graph_view l.graph) l.role) (range_with_len 1 l.before))
    × CountsFit (graph_view l.graph) l.role l.before
