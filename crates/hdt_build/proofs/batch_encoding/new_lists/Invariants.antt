use Rattle.std.proofs.Common.{◌≡◌, ◌<◌, ℕ, [], get_or, length}
use Rattle.hdt_build.proofs.batch_encoding.new_lists.Given as goal

abbrev pub invariant-loop : goal.invariant-loop
invariant-loop g l = record {
  long : length l.made.items ≡ l.counter;
  none : (b : ℕ) → b < l.counter → get_or l.made.items b [] ≡ [];
}
