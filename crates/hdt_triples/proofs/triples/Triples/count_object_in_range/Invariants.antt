use Rattle.std.proofs.Common.{◌≡◌, ◌≤◌, ◌+◌, ◌-◌, length}
use Rattle.hdt_triples.specs.TripleSequences.{triples_of}
use Rattle.hdt_triples.specs.Patterns.{matches}
use Rattle.hdt_triples.specs.Views.{triples_view}
use Rattle.hdt_triples.specs.Scanning.{triples_from}
use Rattle.hdt_triples.proofs.triples.Triples.count_object_in_range.Given as goal

abbrev pub invariant-triples : goal.invariant-triples
invariant-triples l = record {
  from : l.fn.from ≤ l.at;
  to : l.at ≤ l.to;
  so_far : l.count + length (matches l.fn.pattern (triples_from (triples_view l.self) l.at))
      ≡ length (matches l.fn.pattern (triples_of (triples_view l.self)));
  cost : l.steps + l.fn.from ≡ l.initial.steps + l.at;
}

abbrev pub decreases-triples : goal.decreases-triples
decreases-triples l = l.to - l.at
