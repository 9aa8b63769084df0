use Rattle.hdt_triples.specs.Remaining.{remaining_matches}
use Rattle.hdt_file.proofs.PagingLaws.{Continues}
use Rattle.hdt_file.proofs.rendering.append_first.Given as goal

abbrev pub invariant-triples : goal.invariant-triples
invariant-triples l = Continues (remaining_matches l.fn.matches) l.fn.most l.fn.out.items l.out.items l.remaining
    (remaining_matches l.matches)

abbrev pub decreases-triples : goal.decreases-triples
decreases-triples l = l.remaining
