use Rattle.std.proofs.Common.{◌+◌, length}
use Rattle.hdt_file.specs.Graph.{layout_view}
use Rattle.hdt_dict.specs.Dictionary.{role_strings}
use Rattle.hdt_file.proofs.RenderedTermLaws.{RenderedUpTo}
use Rattle.hdt_file.proofs.term_tables.render_marked.Given as goal

abbrev pub invariant-strings : goal.invariant-strings
invariant-strings l = RenderedUpTo l.fn.role l.fn.marks (role_strings (layout_view l.fn.layout).dictionary l.fn.role)
    (l.strings.given + 1) l.strings.ahead l.bytes.items l.starts.items

abbrev pub decreases-strings : goal.decreases-strings
decreases-strings l = length l.strings.ahead
