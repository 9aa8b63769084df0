use Rattle.std.proofs.Common.{◌≡◌, ◌++◌, length}
use Rattle.hdt_build.specs.Inside.PackedStrings.{remaining_strings}
use Rattle.hdt_build.proofs.run_merging.append_run.Given as goal

abbrev pub invariant-strings : goal.invariant-strings
invariant-strings l = l.out ++ remaining_strings l.reader ≡ l.fn.out ++ l.run

abbrev pub decreases-strings : goal.decreases-strings
decreases-strings l = length (remaining_strings l.reader)
