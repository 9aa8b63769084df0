use Rattle.hdt_file.proofs.InfoLaws.{IsSummed}
use Rattle.hdt_file.proofs.info.string_bytes.Given as goal

abbrev pub invariant-strings : goal.invariant-strings
invariant-strings l = IsSummed l.section l.strings l.total l.i
