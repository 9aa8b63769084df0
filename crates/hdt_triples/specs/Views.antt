-- Views of triples that were read.
use Rattle.std.specs.Prelude.{ℕ, List, Result}
use Rattle.hdt_wire.specs.declared.fault.Fault.{Fault}
use Rattle.hdt_wire.specs.Exact.{viewed}
use Rattle.hdt_seq.specs.Numbers.{numbers_of, numbers_offsets}
use Rattle.hdt_seq.specs.Bits.{bits_of}
use Rattle.hdt_triples.specs.TripleSequences.{BitmapTriples}
use Rattle.hdt_triples.specs.Triples.{TripleParts, bitmap_triples, decode_triple_parts}
use Rattle.hdt_triples.specs.declared.pattern.Counts.{Counts}
use Rattle.hdt_triples.specs.declared.triples.Triples.{Triples}

-- The four sequences, as lists.
unfoldable pub triples_view : Triples → BitmapTriples
triples_view t = record {
  bitmap_y = bits_of t.bitmap_y;
  bitmap_z = bits_of t.bitmap_z;
  array_y = numbers_of t.array_y;
  array_z = numbers_of t.array_z;
}

-- The width in bits of an entry of array Y, and of array Z.
unfoldable pub entry_widths : Triples → ℕ × ℕ
entry_widths t = ((numbers_offsets t.array_y).width, (numbers_offsets t.array_z).width)

abbrev pub read_view : Triples × ℕ → BitmapTriples × (ℕ × ℕ) × ℕ
read_view r = (triples_view r.0, entry_widths r.0, r.1)

abbrev pub triple_parts_view : TripleParts → BitmapTriples × (ℕ × ℕ) × ℕ
triple_parts_view t = (bitmap_triples t, (t.array_y.offsets.width, t.array_z.offsets.width), t.array_z.end)

-- Decoding: the four sequences, the widths of their entries, and the byte offset after them, or the first error.
abbrev pub decode_triples : Counts → List ℕ → ℕ → Result (BitmapTriples × (ℕ × ℕ) × ℕ) Fault
decode_triples counts bytes at = viewed triple_parts_view (decode_triple_parts counts bytes at)
