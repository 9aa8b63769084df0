use Rattle.std.proofs.Common.{◌≡◌, ◌++◌}
use Rattle.hdt_build.proofs.triple_runs.append_numbers.Given as goal

abbrev pub invariant-numbers : goal.invariant-numbers
invariant-numbers g l =
    record { known : g.S.Scratch.IsKnown → l.out.items ++ l.reader ≡ l.fn.out.items ++ l.fn.numbers }
