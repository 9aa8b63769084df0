use Rattle.std.proofs.Common.{◌≡◌, drop}
use Rattle.hdt_triples.specs.Remaining.{remaining_matches, step_limit, shorter_list_step_limit}
use Rattle.hdt_file.proofs.search.skip_matches.Given as goal

abbrev pub invariant-skipped : goal.invariant-skipped
invariant-skipped l = record {
  left : drop l.left (remaining_matches l.matches) ≡ drop l.fn.skip (remaining_matches l.fn.found);
  few : step_limit l.matches ≡ step_limit l.fn.found;
  short : shorter_list_step_limit l.matches ≡ shorter_list_step_limit l.fn.found;
}

abbrev pub decreases-skipped : goal.decreases-skipped
decreases-skipped l = l.left
