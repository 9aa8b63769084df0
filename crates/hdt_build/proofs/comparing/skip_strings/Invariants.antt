use Rattle.std.proofs.Common.{◌≡◌, drop}
use Rattle.hdt_build.proofs.comparing.skip_strings.Given as goal

abbrev pub invariant-strings : goal.invariant-strings
invariant-strings l = record { ahead : l.strings.ahead ≡ drop l.at l.fn.strings.ahead }
