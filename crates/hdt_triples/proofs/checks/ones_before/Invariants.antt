use Rattle.std.proofs.Common.{◌≡◌}
use Rattle.hdt_seq.specs.RankSelect.{ones_before}
use Rattle.hdt_seq.specs.Bits.{bits_of}
use Rattle.hdt_triples.proofs.checks.ones_before.Given as goal

abbrev pub invariant-marks : goal.invariant-marks
invariant-marks l = l.before ≡ ones_before (bits_of l.marks) l.i
