use Rattle.std.proofs.Common.{◌≡◌, [], take}
use Rattle.hdt_build.specs.Inside.TripleRuns.{joined_runs}
use Rattle.hdt_build.proofs.tape_merging.are_done.Given as goal

abbrev pub invariant-loop-cursor : goal.invariant-loop-cursor
invariant-loop-cursor g l = joined_runs (take l.cursor-index l.cursors) ≡ []
