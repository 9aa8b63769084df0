use Rattle.std.proofs.Common.{length, ◌-◌, ◌≡◌, ◌≤◌}
use Rattle.hdt_triples.specs.Views.{triples_view}
use Rattle.hdt_triples.specs.Remaining.{remaining_matches, step_limit, steps_taken}
use Rattle.hdt_triples.specs.declared.matches.Matches.TheVariants.{Scan}
use Rattle.hdt_triples.proofs.scan.ScanMatchesIterator.next.Given as goal

abbrev pub invariant-loop-self : goal.invariant-loop-self
invariant-loop-self l = record {
  left : remaining_matches (Scan l.self) ≡ remaining_matches (Scan l.initial.self);
  same : step_limit (Scan l.self) ≡ step_limit (Scan l.initial.self);
  more : steps_taken (Scan l.initial.self)
      ≤ steps_taken (Scan l.self);
}

abbrev pub decreases-loop-self : goal.decreases-loop-self
decreases-loop-self l = length (triples_view l.self.triples).array_z - l.self.position.at
