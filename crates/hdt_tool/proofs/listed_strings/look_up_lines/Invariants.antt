use Rattle.std.proofs.Common.{take}
use Rattle.hdt_dict.specs.Dictionary.{role_strings}
use Rattle.hdt_file.specs.Graph.{layout_view}
use Rattle.hdt_tool.specs.ListedStrings.{AreLinesOfIds}
use Rattle.hdt_tool.proofs.listed_strings.look_up_lines.Given as goal

-- The first IDs have lines.
abbrev pub invariant-ids : goal.invariant-ids
invariant-ids l = AreLinesOfIds (role_strings (layout_view l.layout).dictionary l.role) l.terms
    (take l.at l.ids) l.text.items
