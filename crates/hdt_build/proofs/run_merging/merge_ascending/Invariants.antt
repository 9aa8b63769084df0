use Rattle.std.specs.List.{All}
use Rattle.hdt_build.specs.Inside.SortedEntries.{IsCursorOf}
use Rattle.hdt_build.proofs.RankedRuns.{AreRanked}
use Rattle.hdt_build.proofs.run_merging.merge_ascending.Given as goal

abbrev pub invariant-strings : goal.invariant-strings
invariant-strings l = record {
  ranked : AreRanked l.list l.strings l.ranks.items;
  cursors : All (IsCursorOf l.list) l.cursors.items;
}
