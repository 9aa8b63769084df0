use Rattle.std.proofs.Common.{◌≡◌, length}
use Rattle.hdt_build.proofs.RankedFlags.{AreFlagsBefore}
use Rattle.hdt_build.proofs.role_flags.flags_of_ranks.Given as goal

abbrev pub invariant-loop-at : goal.invariant-loop-at
invariant-loop-at l = record {
  len : length l.made.items ≡ l.count;
  exact : AreFlagsBefore l.at l.flags l.ranks l.made.items;
}
