use Rattle.std.proofs.Common.{length}
use Rattle.hdt_file.specs.Graph.{layout_view}
use Rattle.hdt_dict.specs.Dictionary.{role_strings}
use Rattle.hdt_file.proofs.TermFlagLaws.{FlagsUpTo}
use Rattle.hdt_file.proofs.term_flags.role_flags.Given as goal

abbrev pub invariant-strings : goal.invariant-strings
invariant-strings l = FlagsUpTo l.fn.role (role_strings (layout_view l.fn.layout).dictionary l.fn.role) l.strings.ahead
    l.flags.items

abbrev pub decreases-strings : goal.decreases-strings
decreases-strings l = length l.strings.ahead
