-- The triples that four sequences encode, by index.
use Rattle.std.proofs.Common.{◌≡◌, ℕ, ◌<◌, length, arith}
use Rattle.std.specs.Prelude.{slice_index_or}
use Rattle.std.proofs.lemmas.List.FromFn.{length-map-range_with_len, get_or-map-range_with_len}
use Rattle.hdt_triples.specs.TripleSequences.{BitmapTriples, triple_at, triples_of}

-- There are as many triples as entries of array Z.
pub length-triples : (f : BitmapTriples) → length (triples_of f) ≡ length f.array_z
unfolding triples_of
length-triples f = length-map-range_with_len (triple_at f) 0 (length f.array_z)

-- Element j of the list is triple j.
pub triple_is : (f : BitmapTriples) (j : ℕ) → j < length f.array_z
    → slice_index_or (triples_of f) j (0, 0, 0) ≡ triple_at f j
unfolding triples_of
triple_is f j lt = get_or-map-range_with_len (triple_at f) 0 (length f.array_z) j j (0, 0, 0) lt (omega arith)
