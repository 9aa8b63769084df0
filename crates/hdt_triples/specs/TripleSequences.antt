-- The triples that four sequences encode (rdfhdt.org, "HDT binary format", Bitmap Triples). A 1-bit ends a
-- group; the group of an entry is the number of 1-bits before it.
use Rattle.std.specs.Prelude.{◌≡◌, ℕ, ◌+◌, ◌-◌, ◌≤◌, ◌<◌, List, Bool, true, length, map, slice_index, slice_get, Some}
use Rattle.std.specs.List.{range_with_len}
use Rattle.hdt_seq.specs.RankSelect.{ones_before}
use Rattle.hdt_triples.specs.declared.pattern.Counts.{Counts}

abbrev pub Triple : Type 0
Triple = ℕ × ℕ × ℕ

-- The four sequences of bitmap triples. Bitmap Y and array Y have one entry for each pair of a subject and a predicate;
-- the array holds the predicate. Bitmap Z and array Z have one entry for each triple; the array holds the object.
pub record BitmapTriples : Type 0 where
  pub bitmap_y : List Bool
  pub bitmap_z : List Bool
  pub array_y : List ℕ
  pub array_z : List ℕ

-- The subject of pair q, from 1. Pairs are numbered from 0.
abbrev pub subject_at : BitmapTriples → ℕ → ℕ
subject_at f q = ones_before f.bitmap_y q + 1

-- The pair of triple j. Triples are numbered from 0.
abbrev pub pair_of : BitmapTriples → ℕ → ℕ
pair_of f j = ones_before f.bitmap_z j

abbrev pub triple_at : BitmapTriples → ℕ → Triple
triple_at f j = (subject_at f (pair_of f j), slice_index f.array_y (pair_of f j), slice_index f.array_z j)

-- All triples, one for each entry of array Z.
unfoldable pub triples_of : BitmapTriples → List Triple
triples_of f = map (triple_at f) (range_with_len 0 (length f.array_z))

-- The sequences are consistent: each bitmap is as long as its array and ends in a 1-bit, and bitmap Z has a 1-bit for
-- each pair. No bitmap is empty: 0 - 1 is 0 in ℕ, and an empty bitmap has no bit 0.
pub record AreConsistentSequences (f : BitmapTriples) : Type 0 where
  pub pairs : length f.bitmap_y ≡ length f.array_y
  pub triples : length f.bitmap_z ≡ length f.array_z
  pub last_pair : slice_get f.bitmap_y (length f.bitmap_y - 1) ≡ Some true
  pub last_triple : slice_get f.bitmap_z (length f.bitmap_z - 1) ≡ Some true
  pub each_pair : ones_before f.bitmap_z (length f.bitmap_z) ≡ length f.array_y

-- Each number is from 1 to `count`, and greater than the previous one of its group. Entries i and i + 1 are of one
-- group if as many 1-bits are before the one as before the other: bit i is 0.
pub record AreAscendingGroups (marks : List Bool) (xs : List ℕ) (count : ℕ) : Type 0 where
  pub from : (i : ℕ) → i < length xs → 1 ≤ slice_index xs i
  pub to : (i : ℕ) → i < length xs → slice_index xs i ≤ count
  pub ascend : (i : ℕ) → i + 1 < length xs → ones_before marks i ≡ ones_before marks (i + 1)
      → slice_index xs i < slice_index xs (i + 1)

-- The four sequences are valid: they are consistent, each ID is from 1 to the count of its role, and the predicates of
-- a subject and the objects of a pair strictly ascend.
pub record AreValidSequences (counts : Counts) (f : BitmapTriples) : Type 0 where
  pub marked : AreConsistentSequences f
  pub subjects : (q : ℕ) → q < length f.array_y → subject_at f q ≤ counts.subjects
  pub predicates : AreAscendingGroups f.bitmap_y f.array_y counts.predicates
  pub objects : AreAscendingGroups f.bitmap_z f.array_z counts.objects
