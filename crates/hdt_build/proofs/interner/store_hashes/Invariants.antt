use Rattle.std.proofs.Common.{◌≡◌, length}
use Rattle.hdt_build.proofs.interner.store_hashes.Given as goal

abbrev pub invariant-strings : goal.invariant-strings
invariant-strings l = length l.hashes.items ≡ l.at
