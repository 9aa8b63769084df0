use Rattle.std.proofs.Common.{◌≡◌, length}
use Rattle.hdt_triples.proofs.UsesLaws.{AreUseFlagsBefore}
use Rattle.hdt_triples.proofs.pattern.use_flags.Given as goal

abbrev pub invariant-loop-triple : goal.invariant-loop-triple
invariant-loop-triple l = record {
  len : length l.flags.items ≡ l.count;
  exact : AreUseFlagsBefore l.triples l.role l.triple-index l.flags.items;
}
