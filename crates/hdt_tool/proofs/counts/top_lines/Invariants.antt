use Rattle.std.proofs.Common.{map, take, ℕ}
use Rattle.hdt_file.specs.Graph.{graph_view}
use Rattle.hdt_tool.specs.TermCounts.{AreCountLines}
use Rattle.hdt_tool.proofs.counts.top_lines.Given as goal

-- The first keys have lines.
abbrev pub invariant-keys : goal.invariant-keys
invariant-keys l = AreCountLines (graph_view l.graph) l.role l.raw
    (map (λ (k : ℕ × ℕ). k.1) (take l.at l.keys.items)) l.text.items
