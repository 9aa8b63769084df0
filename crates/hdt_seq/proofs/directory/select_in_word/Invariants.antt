use Rattle.std.proofs.Common.{◌≤◌, ◌<◌, ◌+◌, ◌%◌, ◌^◌}
use Rattle.std.specs.Int.Count.{ones}
use Rattle.hdt_seq.proofs.directory.select_in_word.Given as goal

abbrev pub invariant-loop-left : goal.invariant-loop-left
invariant-loop-left l = record {
  left : l.left ≤ 6;
  room : l.low + 2 ^ l.left ≤ 64;
  before : ones (l.word % 2 ^ l.low) < l.k;
  through : l.k ≤ ones (l.word % 2 ^ (l.low + 2 ^ l.left));
}

abbrev pub decreases-loop-left : goal.decreases-loop-left
decreases-loop-left l = l.left
