use Rattle.std.proofs.Common.{◌≡◌, ◌+◌, ◌++◌, map, take}
use Rattle.hdt_build.proofs.section_tape.push_moved.Given as goal

abbrev pub invariant-loop-number : goal.invariant-loop-number
invariant-loop-number g l =
    g.S.Scratch.IsKnown → l.out ≡ l.fn.out ++ map (λ n. l.size + n) (take l.number-index l.numbers)
