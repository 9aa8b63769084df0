use Rattle.std.proofs.Common.{◌≡◌, ◌≤◌, ◌+◌, ◌*◌, ℕ, length}
use Rattle.hdt_seq.specs.Directory.{groups}
use Rattle.hdt_seq.specs.Width.{digits}
use Rattle.hdt_triples.specs.Bounds.{of_predicate}
use Rattle.hdt_triples.specs.TripleSequences.{triples_of}
use Rattle.hdt_triples.specs.Patterns.{matches}
use Rattle.hdt_triples.specs.Inside.PredicateCursors.{IsBeforePair}
use Rattle.hdt_triples.specs.Views.{triples_view}
use Rattle.hdt_triples.specs.Scanning.{triples_from}
use Rattle.hdt_triples.proofs.listed_triples.ListedTriples.count_predicate_by_pairs.Given as goal

abbrev pub invariant-pairs : goal.invariant-pairs
invariant-pairs l = record {
  so_far : (at : ℕ) × IsBeforePair (triples_view l.self.indexed.triples) l.predicate l.rest at
      × (l.count + length (matches (of_predicate l.predicate) (triples_from (triples_view l.self.indexed.triples) at))
      ≡ length (matches (of_predicate l.predicate) (triples_of (triples_view l.self.indexed.triples))));
  cost : (done : ℕ) × (done + length l.rest ≡ length l.fn.pairs) × (done ≤ l.count) × (done ≤ l.most)
      × (l.steps ≤ l.initial.steps + (2 * digits (groups (triples_view l.self.indexed.triples).bitmap_z) + 18) * done);
  more : l.initial.steps ≤ l.steps;
}

abbrev pub decreases-pairs : goal.decreases-pairs
decreases-pairs l = length l.rest
