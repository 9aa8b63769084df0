use Rattle.std.proofs.Common.{◌≡◌, ◌++◌, replicate}
use Rattle.hdt_usage.proofs.shown_line.put_spaces.Given as goal

abbrev pub invariant-spaces : goal.invariant-spaces
invariant-spaces l = l.out.items ≡ l.fn.out.items ++ replicate l.counter 32
