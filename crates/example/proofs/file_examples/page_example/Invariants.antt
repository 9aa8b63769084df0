use Rattle.std.proofs.Common.{ℕ, ◌+◌, ◌-◌, Option, Some, None, length}
use Rattle.hdt_file.specs.Graph.{graph_view}
use Rattle.example.proofs.file_examples.page_example.Given as goal

-- how many triples there are from the start of the next page on, and 1
unfoldable pub left : ℕ → Option ℕ → ℕ
left count None = 0
left count (Some at) = 1 + (count - at)

-- each page begins after the one before it
abbrev pub decreases-loop-from : goal.decreases-loop-from
decreases-loop-from l = left (length (graph_view l.graph).triples) l.from
