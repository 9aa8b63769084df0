use Rattle.std.proofs.Common.{length}
use Rattle.hdt_triples.specs.Remaining.{remaining_matches}
use Rattle.hdt_file.specs.TermFlags.{is_writable}
use Rattle.hdt_file.proofs.WritableLaws.{KeepsLines}
use Rattle.hdt_file.proofs.writable.append_writable.Given as goal

abbrev pub invariant-triples : goal.invariant-triples
invariant-triples l = KeepsLines (is_writable l.flags) l.most (remaining_matches l.fn.matches) l.fn.triples.items
    l.triples.items l.skipped l.wanted (remaining_matches l.matches)

abbrev pub decreases-triples : goal.decreases-triples
decreases-triples l = length (remaining_matches l.matches)
