use Rattle.std.proofs.Common.{◌≡◌, take}
use Rattle.hdt_build.specs.Inside.TripleRuns.{joined_runs}
use Rattle.hdt_build.proofs.run_merging.decoded.Given as goal

abbrev pub invariant-loop-run : goal.invariant-loop-run
invariant-loop-run l = l.made ≡ joined_runs (take l.run-index l.runs)
