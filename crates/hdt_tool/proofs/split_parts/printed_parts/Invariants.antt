use Rattle.std.proofs.Common.{◌≡◌, ◌≤◌, Some, length, map}
use Rattle.std.specs.List.{range_with_len}
use Rattle.hdt_tool.specs.Paths.{printed_part, printed_to}
use Rattle.hdt_tool.proofs.split_parts.printed_parts.Given as goal

abbrev pub invariant-parts : goal.invariant-parts
invariant-parts g l = (length l.outs.items ≡ l.number) × (l.number ≤ l.parts)
    × (map printed_to l.outs.items ≡ map (printed_part l.part l.fn.out) (range_with_len 0 l.number))
    × (l.number ≤ l.part → l.out ≡ Some l.fn.out)
