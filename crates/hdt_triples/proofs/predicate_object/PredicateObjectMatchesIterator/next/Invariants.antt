use Rattle.std.proofs.Common.{length, ◌≤◌, ◌≡◌}
use Rattle.hdt_triples.specs.Remaining.{remaining_matches, step_limit, shorter_list_step_limit, steps_taken}
use Rattle.hdt_triples.specs.declared.matches.Matches.TheVariants.{PredicateObject}
use Rattle.hdt_triples.proofs.predicate_object.PredicateObjectMatchesIterator.next.Given as goal

abbrev pub invariant-pairs : goal.invariant-pairs
invariant-pairs l = record {
  left : remaining_matches (PredicateObject l.self) ≡ remaining_matches (PredicateObject l.initial.self);
  same : step_limit (PredicateObject l.self) ≡ step_limit (PredicateObject l.initial.self);
  short : shorter_list_step_limit (PredicateObject l.self) ≡ shorter_list_step_limit (PredicateObject l.initial.self);
  more : steps_taken (PredicateObject l.initial.self) ≤ steps_taken (PredicateObject l.self);
}

abbrev pub decreases-pairs : goal.decreases-pairs
decreases-pairs l = length l.self.rest.now
