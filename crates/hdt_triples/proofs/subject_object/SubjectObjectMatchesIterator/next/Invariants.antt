use Rattle.std.proofs.Common.{length, ◌≤◌, ◌-◌, ◌≡◌}
use Rattle.hdt_triples.specs.Views.{triples_view}
use Rattle.hdt_triples.specs.Remaining.{remaining_matches, step_limit, shorter_list_step_limit, steps_taken}
use Rattle.hdt_triples.specs.declared.matches.Matches.TheVariants.{SubjectObject}
use Rattle.hdt_triples.proofs.subject_object.SubjectObjectMatchesIterator.next.Given as goal

abbrev pub invariant-triples : goal.invariant-triples
invariant-triples l = record {
  left : remaining_matches (SubjectObject l.self) ≡ remaining_matches (SubjectObject l.initial.self);
  same : step_limit (SubjectObject l.self) ≡ step_limit (SubjectObject l.initial.self);
  short : shorter_list_step_limit (SubjectObject l.self) ≡ shorter_list_step_limit (SubjectObject l.initial.self);
  more : steps_taken (SubjectObject l.initial.self) ≤ steps_taken (SubjectObject l.self);
}

abbrev pub decreases-triples : goal.decreases-triples
decreases-triples l = length (triples_view l.self.indexed.now.triples).array_z - l.self.position.at
