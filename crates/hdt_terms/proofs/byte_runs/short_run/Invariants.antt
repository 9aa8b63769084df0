use Rattle.std.proofs.Common.{◌-◌, ◌≤◌, length}
use Rattle.hdt_terms.specs.Inside.ByteRuns.{PassBetween, passes}
use Rattle.hdt_terms.proofs.byte_runs.short_run.Given as goal

abbrev pub invariant-bytes : goal.invariant-bytes
invariant-bytes l = (l.at ≤ length l.bytes) × PassBetween (passes l.class) l.bytes 0 l.at

abbrev pub decreases-bytes : goal.decreases-bytes
decreases-bytes l = length l.bytes - l.at
