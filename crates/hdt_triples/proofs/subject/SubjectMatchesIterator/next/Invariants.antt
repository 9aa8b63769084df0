use Rattle.std.proofs.Common.{length, ◌≤◌, ◌-◌, ◌≡◌}
use Rattle.hdt_triples.specs.Views.{triples_view}
use Rattle.hdt_triples.specs.Remaining.{remaining_matches, step_limit, steps_taken}
use Rattle.hdt_triples.specs.declared.matches.Matches.TheVariants.{Subject}
use Rattle.hdt_triples.proofs.subject.SubjectMatchesIterator.next.Given as goal

abbrev pub invariant-loop-self : goal.invariant-loop-self
invariant-loop-self l = record {
  left : remaining_matches (Subject l.self) ≡ remaining_matches (Subject l.initial.self);
  same : step_limit (Subject l.self) ≡ step_limit (Subject l.initial.self);
  more : steps_taken (Subject l.initial.self) ≤ steps_taken (Subject l.self);
}

abbrev pub decreases-loop-self : goal.decreases-loop-self
decreases-loop-self l = length (triples_view l.self.triples).array_z - l.self.position.at
