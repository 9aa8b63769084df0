use Rattle.std.proofs.Common.{◌≡◌, ◌++◌, take}
use Rattle.hdt_triples.specs.Remaining.{remaining_matches}
use Rattle.hdt_wire.specs.Control.{IsPrefixOf}
use Rattle.hdt_file.specs.TextWriting.{limited}
use Rattle.hdt_tool.specs.TriplesText.{numbers_lines}
use Rattle.hdt_tool.proofs.printed_triples.append_numbers.Given as goal

abbrev pub invariant-triples : goal.invariant-triples
invariant-triples l =
    (l.out.items ++ numbers_lines (take l.remaining (remaining_matches l.matches)) ≡ l.fn.out.items
    ++ numbers_lines (limited l.fn.most (remaining_matches l.fn.found))) × IsPrefixOf l.fn.out.items l.out.items

abbrev pub decreases-triples : goal.decreases-triples
decreases-triples l = l.remaining
