use Rattle.std.proofs.Common.{◌≡◌, length, take}
use Rattle.std.specs.List.{All}
use Rattle.hdt_build.specs.Inside.SortedEntries.{IsCursorOf}
use Rattle.hdt_build.specs.Inside.TripleRuns.{joined_runs}
use Rattle.hdt_build.proofs.run_merging.run_cursors.Given as goal

abbrev pub invariant-loop-run : goal.invariant-loop-run
invariant-loop-run l = record {
  at : l.at ≡ length (joined_runs (take l.run-index l.runs));
  cursors : All (IsCursorOf l.list) l.made.items;
}
