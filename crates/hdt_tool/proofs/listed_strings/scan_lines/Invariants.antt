use Rattle.std.proofs.Common.{length}
use Rattle.hdt_dict.specs.Dictionary.{role_strings}
use Rattle.hdt_file.specs.Graph.{layout_view}
use Rattle.hdt_tool.proofs.ListedLines.{AreWalkedIds}
use Rattle.hdt_tool.proofs.listed_strings.scan_lines.Given as goal

-- The IDs up to the last string have lines.
abbrev pub invariant-strings : goal.invariant-strings
invariant-strings l = AreWalkedIds (role_strings (layout_view l.layout).dictionary l.role) l.terms l.ids l.strings l.at
    l.text.items

abbrev pub decreases-strings : goal.decreases-strings
decreases-strings l = length l.strings.ahead
