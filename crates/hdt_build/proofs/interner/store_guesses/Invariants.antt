use Rattle.std.proofs.Common.{◌≡◌, length}
use Rattle.hdt_build.proofs.interner.store_guesses.Given as goal

abbrev pub invariant-loop-hash : goal.invariant-loop-hash
invariant-loop-hash l = length l.guesses.items ≡ l.hash-index
