use Rattle.std.proofs.Common.{◌≡◌, ◌≤◌, ◌<◌, ◌+◌, ◌-◌, ◌*◌, length}
use Rattle.hdt_seq.specs.RankSelect.{ones_before}
use Rattle.hdt_seq.specs.Bits.{bits_of}
use Rattle.hdt_seq.proofs.directory.select_from.Given as goal

abbrev pub invariant-loop-left : goal.invariant-loop-left
invariant-loop-left l = record {
  within : l.at < length (bits_of l.bits);
  inside : l.at < l.fn.from + 512;
  order : l.fn.steps ≤ l.steps;
  aligned : l.at ≡ l.fn.from + 64 * (l.steps - l.fn.steps);
  some : 0 < l.left;
  counted : ones_before (bits_of l.bits) l.at + l.left ≡ ones_before (bits_of l.bits) l.fn.from + l.fn.left;
}

abbrev pub decreases-loop-left : goal.decreases-loop-left
decreases-loop-left l = length (bits_of l.bits) - l.at
