-- The position of a search by predicate p. `rest` has the remaining pairs of the predicate.
use Rattle.std.specs.Prelude.{ℕ, List, ◌≡◌, ◌≤◌, ◌<◌, ◌+◌, length, slice_index, true, false}
use Rattle.hdt_triples.specs.TripleSequences.{BitmapTriples, pair_of, subject_at}
use Rattle.hdt_triples.specs.InvertedIndex.{positions_from}
use Rattle.hdt_triples.specs.declared.predicate_cursor.PredicateCursor.{PredicateCursor}

-- Before a pair: no triple before `at` is of the pair of `at`, and `rest` has the predicate's pairs from that pair on.
pub record IsBeforePair (f : BitmapTriples) (p : ℕ) (rest : List ℕ) (at : ℕ) : Type 0 where
  pub within : at ≤ length f.array_z
  pub rest_is : rest ≡ positions_from f.array_y p (pair_of f at)
  pub earlier : (i : ℕ) → i < at → pair_of f i < pair_of f at

-- At a triple of a pair of the predicate: `rest` has the predicate's pairs after that pair.
pub record IsWithinPair (f : BitmapTriples) (p : ℕ) (rest : List ℕ) (at subject : ℕ) : Type 0 where
  pub within : at < length f.array_z
  pub rest_is : rest ≡ positions_from f.array_y p (pair_of f at + 1)
  pub predicate_is : slice_index f.array_y (pair_of f at) ≡ p
  pub subject_is : subject ≡ subject_at f (pair_of f at)

pub record IsPredicateCursor (f : BitmapTriples) (p : ℕ) (s : PredicateCursor) : Type 0 where
  pub between : s.inside ≡ false → IsBeforePair f p s.rest.now s.at
  pub inside : s.inside ≡ true → IsWithinPair f p s.rest.now s.at s.subject
