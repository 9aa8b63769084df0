use Rattle.std.proofs.Common.{length}
use Rattle.hdt_file.specs.Graph.{graph_view}
use Rattle.hdt_tool.proofs.CountLines.{AreWalked}
use Rattle.hdt_tool.proofs.counts.all_lines.Given as goal

-- The strings that were returned have lines.
abbrev pub invariant-strings : goal.invariant-strings
invariant-strings l = AreWalked (graph_view l.graph) l.role l.raw l.strings l.text.items

abbrev pub decreases-strings : goal.decreases-strings
decreases-strings l = length l.strings.ahead
