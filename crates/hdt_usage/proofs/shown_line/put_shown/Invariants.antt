use Rattle.std.proofs.Common.{◌≡◌, ◌++◌, take}
use Rattle.hdt_usage.specs.ShownLine.{shown}
use Rattle.hdt_usage.proofs.shown_line.put_shown.Given as goal

abbrev pub invariant-bytes : goal.invariant-bytes
invariant-bytes l = l.out.items ≡ l.fn.out.items ++ shown (take l.byte-index l.bytes)
