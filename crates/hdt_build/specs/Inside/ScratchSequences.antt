-- The encoding of triples, one sequence after another.
use Rattle.std.specs.Prelude.{◌≡◌, ℕ, List, ◌∷◌, ◌++◌, [], length}
use Rattle.hdt_wire.specs.VByte.{vbyte}
use Rattle.hdt_seq.specs.Bits.{bits_encoding}
use Rattle.hdt_seq.specs.Numbers.{numbers_encoding}
use Rattle.hdt_seq.specs.Width.{greatest, width_of}
use Rattle.hdt_triples.specs.TripleSequences.{Triple, BitmapTriples}
use Rattle.hdt_triples.specs.Writing.{distinct_pairs}
use Rattle.hdt_build.specs.declared.scratch_sequences.EntryMeasure.{EntryMeasure}
use Rattle.hdt_build.specs.declared.scratch_sequences.TripleMeasures.{TripleMeasures}
use Rattle.hdt_build.specs.declared.triple_entries.Sequence.{Sequence}
use Rattle.hdt_build.specs.declared.triple_entries.Sequence.TheVariants.{PairEnds, TripleEnds, Predicates, Objects}
use Rattle.hdt_build.specs.Inside.EntryWriting.{EntryState, IsWritingEntries}
use Rattle.hdt_build.specs.Inside.Output.{OutputState}
use Rattle.hdt_build.specs.Inside.TripleEntries.{entries_of}

-- ---- measures

-- this is the number of entries, and the greatest one
pub record IsMeasureOf (xs : List ℕ) (m : EntryMeasure) : Type 0 where
  pub count_is : m.count ≡ length xs
  pub greatest_is : m.greatest ≡ greatest xs

-- all entries but the remaining ones were measured
pub record HaveMeasured (all rest : List ℕ) (m : EntryMeasure) : Type 0 where
  pub done : List ℕ
  pub measured : IsMeasureOf done m
  pub all_are : done ++ rest ≡ all

-- these are the measures of the triples
pub record AreMeasures (ts : List Triple) (m : TripleMeasures) : Type 0 where
  pub triples : m.triples ≡ length ts
  pub pairs : m.pairs ≡ length (distinct_pairs ts)
  pub predicate : m.greatest_predicate ≡ greatest (entries_of Predicates ts)
  pub object : m.greatest_object ≡ greatest (entries_of Objects ts)

-- ---- writing

-- the canonical encoding of a sequence
abbrev pub sequence_encoding : Sequence → BitmapTriples → List ℕ
sequence_encoding PairEnds f = bits_encoding f.bitmap_y
sequence_encoding TripleEnds f = bits_encoding f.bitmap_z
sequence_encoding Predicates f = numbers_encoding f.array_y
sequence_encoding Objects f = numbers_encoding f.array_z

-- the width of the entries of a sequence
abbrev pub sequence_width : Sequence → TripleMeasures → ℕ
sequence_width PairEnds m = 1
sequence_width TripleEnds m = 1
sequence_width Predicates m = width_of (m.greatest_predicate ∷ [])
sequence_width Objects m = width_of (m.greatest_object ∷ [])

-- what precedes the entries of a sequence, without its CRC
abbrev pub sequence_head : Sequence → TripleMeasures → List ℕ
sequence_head PairEnds m = 1 ∷ vbyte m.pairs
sequence_head TripleEnds m = 1 ∷ vbyte m.triples
sequence_head Predicates m = 1 ∷ width_of (m.greatest_predicate ∷ []) ∷ vbyte m.pairs
sequence_head Objects m = 1 ∷ width_of (m.greatest_object ∷ []) ∷ vbyte m.triples

-- all entries but the remaining ones are written
pub record HaveWrittenEntries (before : OutputState) (head : List ℕ) (width : ℕ) (all rest : List ℕ) (w : EntryState)
    : Type 0 where
  pub done : List ℕ
  pub writing : IsWritingEntries before head width done w
  pub all_are : done ++ rest ≡ all
