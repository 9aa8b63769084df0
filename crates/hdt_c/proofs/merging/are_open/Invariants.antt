use Rattle.std.proofs.Common.{take}
use Rattle.std.specs.List.{All}
use Rattle.hdt_c.specs.Handle.{IsOpen}
use Rattle.hdt_c.proofs.merging.are_open.Given as goal

-- the handles so far are open
abbrev pub invariant-loop-graph : goal.invariant-loop-graph
invariant-loop-graph l = All IsOpen (take l.graph-index l.graphs)
