-- Scans over the triples.
use Rattle.std.specs.Prelude.{◌≡◌, ℕ, ◌-◌, ◌≤◌, List, length, map}
use Rattle.std.specs.List.{range_with_len}
use Rattle.hdt_triples.specs.TripleSequences.{BitmapTriples, Triple, pair_of, subject_at, triple_at}
use Rattle.hdt_triples.specs.declared.triples.TriplePosition.{TriplePosition}

-- p is the position of triple `at`, or the end position: its pair and its subject are those of the triple.
pub record IsTriplePosition (f : BitmapTriples) (p : TriplePosition) : Type 0 where
  pub within : p.at ≤ length f.array_z
  pub pair_is : p.pair ≡ pair_of f p.at
  pub subject_is : p.subject ≡ subject_at f p.pair

-- The triples from index j on.
unfoldable pub triples_from : BitmapTriples → ℕ → List Triple
triples_from f j = map (triple_at f) (range_with_len j (length f.array_z - j))
