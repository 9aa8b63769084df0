-- The canonical encoding of a list of triples.
use Rattle.std.specs.Prelude.{ℕ, ◌+◌, ◌&&◌, List, Bool, ◌++◌, codes, nat_eq, length, map}
use Rattle.std.specs.List.{dedup}
use Rattle.hdt_wire.specs.declared.control.Kind.TheVariants as kinds
use Rattle.hdt_wire.specs.Control.{control, expected_control_info}
use Rattle.hdt_seq.specs.Width.{width_of}
use Rattle.hdt_seq.specs.Numbers.{numbers_encoding, expected_numbers_offsets}
use Rattle.hdt_seq.specs.Bits.{bits_encoding, expected_bits_offsets}
use Rattle.hdt_triples.specs.TripleSequences.{Triple, BitmapTriples}
use Rattle.hdt_triples.specs.Groups.{group_end_bits}
use Rattle.hdt_triples.specs.Triples.{TripleParts}

abbrev pub pair_eq : ℕ × ℕ → ℕ × ℕ → Bool
pair_eq x y = nat_eq x.0 y.0 && nat_eq x.1 y.1

-- The pair of each triple: its subject and its predicate.
abbrev pub all_pairs : List Triple → List (ℕ × ℕ)
all_pairs ts = map (λ t. (t.0, t.1)) ts

-- The distinct pairs, in order.
abbrev pub distinct_pairs : List Triple → List (ℕ × ℕ)
distinct_pairs ts = dedup pair_eq (all_pairs ts)

-- The four sequences of a list of triples. Bitmap Y has a 1-bit for the last pair of each subject, bitmap Z one for the
-- last triple of each pair. Array Y has the predicates of the pairs, array Z the objects of the triples.
unfoldable pub sequences_of : List Triple → BitmapTriples
sequences_of ts = record {
  bitmap_y = group_end_bits nat_eq (map (λ p. p.0) (distinct_pairs ts));
  bitmap_z = group_end_bits pair_eq (all_pairs ts);
  array_y = map (λ p. p.1) (distinct_pairs ts);
  array_z = map (λ t. t.2) ts;
}

-- The property text: triples are sorted by subject, predicate, object.
abbrev pub order_property : List ℕ
order_property = codes "order=1;"

-- The canonical bytes of four sequences: control information, then each sequence in its canonical encoding.
unfoldable pub canonical_sequences : BitmapTriples → List ℕ
canonical_sequences f = control kinds.Triples order_property
    ++ (bits_encoding f.bitmap_y
    ++ (bits_encoding f.bitmap_z ++ (numbers_encoding f.array_y ++ numbers_encoding f.array_z)))

-- What these bytes decode to at byte offset `at`.
unfoldable pub sequences_parts : BitmapTriples → ℕ → TripleParts
sequences_parts f at =
    let a : ℕ = at + length (control kinds.Triples order_property) in
    let b : ℕ = a + length (bits_encoding f.bitmap_y) in
    let c : ℕ = b + length (bits_encoding f.bitmap_z) in
    let d : ℕ = c + length (numbers_encoding f.array_y) in
    record {
      control = expected_control_info kinds.Triples order_property at a;
      bitmap_y = record { items = f.bitmap_y; offsets = expected_bits_offsets a (length f.bitmap_y); end = b };
      bitmap_z = record { items = f.bitmap_z; offsets = expected_bits_offsets b (length f.bitmap_z); end = c };
      array_y = record {
        items = f.array_y;
        offsets =
            expected_numbers_offsets c (width_of f.array_y) (length f.array_y);
        end = d;
      };
      array_z = record {
        items = f.array_z;
        offsets =
            expected_numbers_offsets d (width_of f.array_z) (length f.array_z);
        end =
            d + length (numbers_encoding f.array_z);
      };
    }

-- The canonical bytes of a list of triples.
abbrev pub canonical_triples : List Triple → List ℕ
canonical_triples ts = canonical_sequences (sequences_of ts)

-- What these bytes decode to at byte offset `at`.
abbrev pub canonical_triples_parts : List Triple → ℕ → TripleParts
canonical_triples_parts ts at = sequences_parts (sequences_of ts) at
