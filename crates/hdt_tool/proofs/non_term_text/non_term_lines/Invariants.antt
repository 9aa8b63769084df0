use Rattle.std.proofs.Common.{◌≡◌, take}
use Rattle.std.specs.List.{flat_map}
use Rattle.hdt_tool.specs.NonTermText.{non_term_line}
use Rattle.hdt_tool.proofs.non_term_text.non_term_lines.Given as goal

abbrev pub invariant-found : goal.invariant-found
invariant-found l = l.text.items ≡ flat_map non_term_line (take l.non_term-index l.found)
