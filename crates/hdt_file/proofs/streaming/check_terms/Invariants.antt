use Rattle.std.proofs.Common.{take}
use Rattle.hdt_triples.specs.Remaining.{remaining_matches}
use Rattle.hdt_file.specs.Graph.{layout_view}
use Rattle.hdt_file.specs.TextWriting.{limited}
use Rattle.hdt_file.proofs.StreamingLaws.{ChecksTerms}
use Rattle.hdt_file.proofs.streaming.check_terms.Given as goal

abbrev pub invariant-triples : goal.invariant-triples
invariant-triples l = ChecksTerms (layout_view l.layout) (limited l.fn.most (remaining_matches l.fn.found))
    (take l.left (remaining_matches l.matches))

abbrev pub decreases-triples : goal.decreases-triples
decreases-triples l = l.left
