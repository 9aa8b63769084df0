-- Pages of matches.
use Rattle.std.specs.Prelude.{◌≡◌, ◌⊎◌, ℕ, ◌+◌, ◌≤◌, ◌<◌, List, length, drop, true, None}
use Rattle.hdt_triples.specs.declared.pattern.Pattern.{Pattern}
use Rattle.hdt_triples.specs.TripleSequences.{Triple}
use Rattle.hdt_triples.specs.Order.{nth_triple}
use Rattle.hdt_triples.specs.Patterns.{agrees, matches}

-- Triple `next` is the match after the first `most` ones from triple `from` on.
pub record IsNextMatch (ts : List Triple) (pattern : Pattern) (from most next : ℕ) : Type 0 where
  pub within : next < length ts
  pub is : agrees pattern (nth_triple ts next) ≡ true
  -- the matches from it on are those that are left
  pub rest : matches pattern (drop next ts) ≡ drop most (matches pattern (drop from ts))
  -- there are at least `most` triples before it
  pub later : from + most ≤ next

-- Each match is reached by its number among the matches: the pattern gives nothing, a subject, a subject and a
-- predicate (then they are consecutive triples), or only an object (then they are its list).
pub record HasPositions (p : Pattern) : Type 0 where
  pub predicate : p.s ≡ None → p.p ≡ None
  pub object : (p.s ≡ None) ⊎ (p.o ≡ None)

-- The matches of the pattern are consecutive triples: it gives no object, and a predicate only with a subject.
pub record HasConsecutiveMatches (p : Pattern) : Type 0 where
  pub object : p.o ≡ None
  pub predicate : p.s ≡ None → p.p ≡ None
