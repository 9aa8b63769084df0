use Rattle.std.proofs.Common.{◌≡◌, ◌++◌, length}
use Rattle.hdt_build.specs.Inside.PackedStrings.{remaining_strings}
use Rattle.hdt_build.proofs.batches.written_strings.Given as goal

abbrev pub invariant-strings : goal.invariant-strings
invariant-strings g l = g.S.Scratch.IsKnown → l.writer ++ remaining_strings l.reader ≡ l.fn.out ++ l.strings

abbrev pub decreases-strings : goal.decreases-strings
decreases-strings g l = length (remaining_strings l.reader)
