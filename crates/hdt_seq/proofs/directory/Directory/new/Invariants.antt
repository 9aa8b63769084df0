use Rattle.std.proofs.Common.{ℕ, ◌≡◌, ◌≤◌, ◌+◌, ◌*◌, min, length, slice_index}
use Rattle.hdt_seq.specs.RankSelect.{ones_before}
use Rattle.hdt_seq.specs.Bits.{bits_of}
use Rattle.hdt_seq.proofs.directory.Directory.new.Given as goal

abbrev pub invariant-loop-group : goal.invariant-loop-group
invariant-loop-group l = record {
  at_is : l.at ≡ min (512 * l.group) (length (bits_of l.bits));
  counted : l.total ≡ ones_before (bits_of l.bits) l.at;
  many : length l.counts.items ≡ l.group + 1;
  each : (g : ℕ) → g ≤ l.group → slice_index l.counts.items g ≡ ones_before (bits_of l.bits) (512 * g);
}
