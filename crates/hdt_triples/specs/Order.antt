-- Lists of triples: their order, the range of their IDs, and which of them can be written.
use Rattle.std.specs.Prelude.{◌≡◌, ◌⊎◌, ℕ, ◌+◌, ◌<◌, ◌≤◌, ◌^◌, List, length, slice_index_or}
use Rattle.hdt_triples.specs.TripleSequences.{Triple}
use Rattle.hdt_triples.specs.declared.pattern.Counts.{Counts}

-- Triple i of a list.
abbrev pub nth_triple : List Triple → ℕ → Triple
nth_triple ts i = slice_index_or ts i (0, 0, 0)

-- Triples compare by subject, then by predicate, then by object.
abbrev pub TripleLess : Triple → Triple → Type 0
TripleLess a b = (a.0 < b.0) ⊎ ((a.0 ≡ b.0) × ((a.1 < b.1) ⊎ ((a.1 ≡ b.1) × (a.2 < b.2))))

-- The triples strictly ascend.
abbrev pub AreAscending : List Triple → Type 0
AreAscending ts = (i : ℕ) → i + 1 < length ts → TripleLess (nth_triple ts i) (nth_triple ts (i + 1))

-- IDs are 1 to the count.
abbrev pub IsValidId : ℕ → ℕ → Type 0
IsValidId n count = (1 ≤ n) × (n ≤ count)

-- Each ID is from 1 to the count of its role.
abbrev pub IsInRange : Counts → Triple → Type 0
IsInRange counts t = IsValidId t.0 counts.subjects × IsValidId t.1 counts.predicates × IsValidId t.2 counts.objects

abbrev pub AreInRange : Counts → List Triple → Type 0
AreInRange counts ts = (i : ℕ) → i < length ts → IsInRange counts (nth_triple ts i)

-- No ID is above the count of its role.
abbrev pub AreAtMostCounts : Counts → List Triple → Type 0
AreAtMostCounts counts ts = (i : ℕ) → i < length ts → ((nth_triple ts i).0 ≤ counts.subjects)
    × ((nth_triple ts i).1 ≤ counts.predicates) × ((nth_triple ts i).2 ≤ counts.objects)

-- The counts of predicates and of objects are below 2^64.
abbrev pub CountsFit64 : Counts → Type 0
CountsFit64 counts = (counts.predicates < 2 ^ 64) × (counts.objects < 2 ^ 64)

-- The triples can be written: there is at least one, they strictly ascend, their subjects are 1, 2, 3, .. without a
-- gap, and each predicate and object is at least 1.
pub record AreWritable (ts : List Triple) : Type 0 where
  pub some : 0 < length ts
  pub ascend : AreAscending ts
  pub first : (nth_triple ts 0).0 ≡ 1
  pub next : (i : ℕ) → i + 1 < length ts → (nth_triple ts (i + 1)).0 ≤ (nth_triple ts i).0 + 1
  pub predicates : (i : ℕ) → i < length ts → 1 ≤ (nth_triple ts i).1
  pub objects : (i : ℕ) → i < length ts → 1 ≤ (nth_triple ts i).2
