use Rattle.std.proofs.Common.{ℕ, ◌<◌, ◌≤◌, List, length}
use Rattle.hdt_front.specs.Order.{lcp_len}
use Rattle.hdt_build.specs.Inside.Rewriting.{IsProgressOf}
use Rattle.hdt_build.proofs.section_run.advance_to.Given as goal

abbrev pub invariant-strings : goal.invariant-strings
invariant-strings l = record {
  progress : (all : List (List ℕ)) → IsProgressOf all l.fn.strings → IsProgressOf all l.strings;
  before : l.strings.given < l.id;
  kept : l.kept ≤ lcp_len l.fn.strings.last l.strings.last;
}

abbrev pub decreases-strings : goal.decreases-strings
decreases-strings l = length l.strings.ahead
