use Rattle.std.proofs.Common.{◌≡◌, ℕ, ◌<◌, [], length, get_or}
use Rattle.hdt_build.specs.Inside.SortedEntries.{ExtendsList}
use Rattle.hdt_build.proofs.interner.Interner.intern_all.Given as goal

abbrev pub invariant-strings : goal.invariant-strings
invariant-strings l = record {
  hashed : length l.lookups.hashes.items ≡ length l.strings;
  guessed : length l.lookups.guesses.items ≡ length l.strings;
  long : length l.lookups.indices.items ≡ l.at;
  on : ExtendsList l.fn.self l.self;
  within : (k : ℕ) → k < length l.lookups.indices.items → get_or l.lookups.indices.items k 0 < length l.self;
  is : (k : ℕ) → k < length l.lookups.indices.items → get_or l.self (get_or l.lookups.indices.items k 0) []
      ≡ get_or l.strings k [];
}
