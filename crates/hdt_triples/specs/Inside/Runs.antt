-- Ranges of pairs and of triples. A range has the index of its first element and the index after its last one.
use Rattle.std.specs.Prelude.{ℕ, ◌≡◌, ◌≢◌, ◌≤◌, ◌<◌, ◌+◌, length, slice_index, true, false}
use Rattle.hdt_triples.specs.TripleSequences.{BitmapTriples, pair_of, subject_at, triple_at}
use Rattle.hdt_triples.specs.Patterns.{agrees}
use Rattle.hdt_triples.specs.Scanning.{IsTriplePosition}
use Rattle.hdt_triples.specs.declared.pattern.Pattern.{Pattern}
use Rattle.hdt_triples.specs.declared.triples.TriplePosition.{TriplePosition}

-- Pair q has this subject and this predicate.
abbrev pub IsPairOf : BitmapTriples → ℕ → ℕ → ℕ → Type 0
IsPairOf f s p q = (q < length f.array_y) × (subject_at f q ≡ s) × (slice_index f.array_y q ≡ p)

-- The pairs of subject s are those from `low` to `high`.
pub record IsPairRange (f : BitmapTriples) (s low high : ℕ) : Type 0 where
  pub ordered : low ≤ high
  pub within : high ≤ length f.array_y
  pub inside : (q : ℕ) → low ≤ q → q < high → subject_at f q ≡ s
  pub from : (q : ℕ) → q < length f.array_y → subject_at f q ≡ s → low ≤ q
  pub to : (q : ℕ) → q < length f.array_y → subject_at f q ≡ s → q < high

-- From `at` to `end` all triples match, and have this subject and this predicate; from `end` on none matches.
pub record IsRunOfTriples (f : BitmapTriples) (pattern : Pattern) (s p at end : ℕ) : Type 0 where
  pub ordered : at ≤ end
  pub within : end ≤ length f.array_z
  pub all : (i : ℕ) → at ≤ i → i < end → agrees pattern (triple_at f i) ≡ true
  pub subject_is : (i : ℕ) → at ≤ i → i < end → subject_at f (pair_of f i) ≡ s
  pub predicate_is : (i : ℕ) → at ≤ i → i < end → slice_index f.array_y (pair_of f i) ≡ p
  pub over : (i : ℕ) → end ≤ i → i < length f.array_z → agrees pattern (triple_at f i) ≡ false

-- The triples of the pairs `first` to `last`, both included, are those from `at` to `end`.
pub record IsTripleRange (f : BitmapTriples) (first last at end : ℕ) : Type 0 where
  pub some : at < end
  pub within : end ≤ length f.array_z
  pub begins : pair_of f at ≡ first
  pub before : (i : ℕ) → i < at → pair_of f i < first
  pub to : (i : ℕ) → i < end → pair_of f i ≤ last
  pub ends : pair_of f end ≡ last + 1

-- The triples of pair q end at `end`. The one with object o has the index `here`; if there is none, `here` is `end`.
pub record IsObjectSearch (f : BitmapTriples) (q o here end : ℕ) : Type 0 where
  pub start : ℕ
  pub triple_range : IsTripleRange f q q start end
  pub from : start ≤ here
  pub to : here ≤ end
  pub is : here < end → slice_index f.array_z here ≡ o
  pub other : (i : ℕ) → start ≤ i → i < end → i ≢ here → slice_index f.array_z i ≢ o

-- The triples that match are those from `at` to `end`.
pub record IsMatchRange (f : BitmapTriples) (pattern : Pattern) (at end : ℕ) : Type 0 where
  pub ordered : at ≤ end
  pub within : end ≤ length f.array_z
  pub before : (i : ℕ) → i < at → agrees pattern (triple_at f i) ≡ false
  pub all : (i : ℕ) → at ≤ i → i < end → agrees pattern (triple_at f i) ≡ true
  pub over : (i : ℕ) → end ≤ i → i < length f.array_z → agrees pattern (triple_at f i) ≡ false

-- p is the position of the first triple from index `from` on that has object o, and its subject is s.
pub record IsNextWithObject (f : BitmapTriples) (s o from : ℕ) (p : TriplePosition) : Type 0 where
  pub positioned : IsTriplePosition f p
  pub later : from ≤ p.at
  pub within : p.at < length f.array_z
  pub own : p.subject ≡ s
  pub object : slice_index f.array_z p.at ≡ o
  pub first : (i : ℕ) → from ≤ i → i < p.at → slice_index f.array_z i ≢ o
