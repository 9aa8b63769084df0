use Rattle.std.proofs.Common.{◌≡◌, ◌≤◌, ◌+◌, ◌*◌, ◌-◌, length}
use Rattle.hdt_triples.specs.TripleSequences.{triples_of}
use Rattle.hdt_triples.specs.Patterns.{matches}
use Rattle.hdt_triples.specs.Views.{triples_view}
use Rattle.hdt_triples.specs.Scanning.{IsTriplePosition, triples_from}
use Rattle.hdt_triples.proofs.triples.Triples.count_by_scan.Given as goal

abbrev pub invariant-triples : goal.invariant-triples
invariant-triples l = record {
  positioned : IsTriplePosition (triples_view l.self) l.position;
  few : l.count ≤ l.most;
  so_far : l.count + length (matches l.pattern (triples_from (triples_view l.self) l.position.at))
      ≡ length (matches l.pattern (triples_of (triples_view l.self)));
  cost : l.steps ≤ l.initial.steps + 4 * l.position.at;
  more : l.initial.steps ≤ l.steps;
}

abbrev pub decreases-triples : goal.decreases-triples
decreases-triples l = length (triples_view l.self).array_z - l.position.at
