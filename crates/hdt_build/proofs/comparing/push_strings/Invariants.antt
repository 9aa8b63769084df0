use Rattle.std.proofs.Common.{◌≡◌, ◌++◌, drop, take}
use Rattle.hdt_build.proofs.comparing.push_strings.Given as goal

abbrev pub invariant-strings : goal.invariant-strings
invariant-strings l = record {
  ahead : l.strings.ahead ≡ drop l.at l.fn.strings.ahead;
  block : l.out.block_size ≡ l.fn.out.block_size;
  strings : l.out.strings ≡ l.fn.out.strings ++ take l.at l.fn.strings.ahead;
}
