use Rattle.std.proofs.Common.{◌≡◌, ◌≤◌, ◌+◌, ◌*◌, length, map}
use Rattle.std.specs.List.{All}
use Rattle.hdt_triples.specs.TripleSequences.{triple_at, triples_of}
use Rattle.hdt_triples.specs.InvertedIndex.{positions_of, IsPositionOf}
use Rattle.hdt_triples.specs.Patterns.{matches}
use Rattle.hdt_triples.specs.Views.{triples_view}
use Rattle.hdt_triples.proofs.listed_triples.ListedTriples.count_predicate_object.Given as goal

abbrev pub invariant-places : goal.invariant-places
invariant-places l = record {
  among : All (IsPositionOf (triples_view l.self.indexed.triples).array_z l.object) l.rest;
  few : l.count ≤ l.most;
  so_far : l.count + length (matches l.fn.pattern (map (triple_at (triples_view l.self.indexed.triples)) l.rest))
      ≡ length (matches l.fn.pattern (triples_of (triples_view l.self.indexed.triples)));
  cost : l.steps + 10 * length l.rest
      ≤ l.initial.steps + 10 * length (positions_of (triples_view l.self.indexed.triples).array_z l.object);
  more : l.initial.steps ≤ l.steps;
}

abbrev pub decreases-places : goal.decreases-places
decreases-places l = length l.rest
