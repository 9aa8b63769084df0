use Rattle.std.proofs.Common.{◌≡◌, ◌++◌}
use Rattle.std.specs.List.{range_with_len}
use Rattle.hdt_tool.proofs.listed_strings.push_range.Given as goal

-- The first numbers of the range were appended.
abbrev pub invariant-numbers : goal.invariant-numbers
invariant-numbers l = l.numbers.items ≡ l.fn.numbers.items ++ range_with_len l.start l.more
