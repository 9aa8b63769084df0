use Rattle.std.proofs.Common.{◌≡◌, [], take}
use Rattle.hdt_build.specs.Inside.TripleRuns.{joined_runs}
use Rattle.hdt_build.proofs.triple_merging.are_done.Given as goal

abbrev pub invariant-loop-cursor : goal.invariant-loop-cursor
invariant-loop-cursor l = joined_runs (take l.cursor-index l.cursors) ≡ []
