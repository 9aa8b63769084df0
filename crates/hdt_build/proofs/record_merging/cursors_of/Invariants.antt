use Rattle.std.proofs.Common.{◌≡◌, take}
use Rattle.hdt_build.proofs.record_merging.cursors_of.Given as goal

abbrev pub invariant-loop-run : goal.invariant-loop-run
invariant-loop-run g l = g.S.Scratch.IsKnown → l.made.items ≡ take l.run-index l.runs
