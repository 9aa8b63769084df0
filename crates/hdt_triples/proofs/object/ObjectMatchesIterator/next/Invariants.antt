use Rattle.std.proofs.Common.{length, ◌≤◌, ◌≡◌}
use Rattle.hdt_triples.specs.Remaining.{remaining_matches, step_limit, steps_taken}
use Rattle.hdt_triples.specs.declared.matches.Matches.TheVariants.{Object}
use Rattle.hdt_triples.proofs.object.ObjectMatchesIterator.next.Given as goal

abbrev pub invariant-loop-self : goal.invariant-loop-self
invariant-loop-self l = record {
  left : remaining_matches (Object l.self) ≡ remaining_matches (Object l.initial.self);
  same : step_limit (Object l.self) ≡ step_limit (Object l.initial.self);
  more : steps_taken (Object l.initial.self)
      ≤ steps_taken (Object l.self);
}

abbrev pub decreases-loop-self : goal.decreases-loop-self
decreases-loop-self l = length l.self.rest.now
