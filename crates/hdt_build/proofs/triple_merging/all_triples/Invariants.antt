use Rattle.std.proofs.Common.{◌≡◌, take}
use Rattle.hdt_build.specs.Inside.TripleRuns.{joined_runs}
use Rattle.hdt_build.proofs.triple_merging.all_triples.Given as goal

abbrev pub invariant-loop-run : goal.invariant-loop-run
invariant-loop-run l = l.made.items ≡ joined_runs (take l.run-index l.runs)
