use Rattle.std.proofs.Common.{◌-◌, ◌≤◌, length}
use Rattle.hdt_terms.specs.Inside.ByteRuns.{PassBetween, passes}
use Rattle.hdt_terms.proofs.byte_runs.run_len.Given as goal

abbrev pub invariant-loads : goal.invariant-loads
invariant-loads l = (l.at ≤ length l.bytes) × PassBetween (passes l.class) l.bytes 0 l.at

abbrev pub decreases-loads : goal.decreases-loads
decreases-loads l = length l.bytes - l.at
