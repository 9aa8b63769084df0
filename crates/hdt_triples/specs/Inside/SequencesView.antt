-- The view of four built sequences as lists.
use Rattle.hdt_triples.specs.TripleSequences.{BitmapTriples}
use Rattle.hdt_triples.specs.declared.sequences.Sequences.{Sequences}

unfoldable pub sequences_view : Sequences → BitmapTriples
sequences_view s = record {
  bitmap_y = s.bitmap_y.items;
  bitmap_z = s.bitmap_z.items;
  array_y = s.array_y.items;
  array_z = s.array_z.items;
}
