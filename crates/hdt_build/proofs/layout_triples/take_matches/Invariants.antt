use Rattle.std.proofs.Common.{◌≡◌, ◌≤◌, ◌++◌, ◌∷◌, length}
use Rattle.hdt_triples.specs.Remaining.{remaining_matches}
use Rattle.hdt_build.proofs.layout_triples.take_matches.Given as goal

abbrev pub invariant-triples : goal.invariant-triples
invariant-triples l =
    record {
      taken : l.fn.first ∷ remaining_matches l.fn.matches ≡ l.triples.items ++ remaining_matches l.matches;
      fewer : length (remaining_matches l.matches) ≤ length (remaining_matches l.fn.matches);
    }

abbrev pub decreases-triples : goal.decreases-triples
decreases-triples l = length (remaining_matches l.matches)
