use Rattle.std.proofs.Common.{length}
use Rattle.hdt_build.specs.Inside.SectionTapes.{HavePushedEntries}
use Rattle.hdt_build.proofs.section_tape.push_entries.Given as goal

abbrev pub invariant-numbers : goal.invariant-numbers
invariant-numbers g l = g.S.Scratch.IsKnown → HavePushedEntries l.numbers l.reader l.count l.fn.writer l.writer

abbrev pub decreases-numbers : goal.decreases-numbers
decreases-numbers g l = length l.reader
