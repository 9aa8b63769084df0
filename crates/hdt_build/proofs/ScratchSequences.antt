-- The encoding of triples, one sequence after another.
use Rattle.std.proofs.Common.{◌≡◌, ◌∙◌, ℕ, zero, suc, ◌+◌, ◌<◌, ◌^◌, Bool, true, false, List, [], ◌∷◌, ◌++◌, Option}
use Rattle.std.proofs.Common.{length, map, max, nat_eq, ap, sym, subst, arith, append_assoc, append-nil}
use Rattle.std.proofs.Common.{length-append}
use Rattle.std.specs.Prelude.{IfOk, MatchResult, Result, Ok, Err, is_ok}
use Rattle.std.proofs.lemmas.List.{get_or-append-add, length-map}
use Rattle.std.proofs.lemmas.List.Sums.{fold-append}
use Rattle.std.proofs.lemmas.Result.{IfOk-at_ok}
use Rattle.hdt_wire.specs.Control.{control}
use Rattle.hdt_wire.specs.declared.control.Kind.TheVariants as kinds
use Rattle.hdt_wire.specs.VByte.{vbyte}
use Rattle.hdt_seq.specs.Bits.{bits_encoding}
use Rattle.hdt_seq.specs.Numbers.{numbers_encoding}
use Rattle.hdt_seq.specs.PackedBits.{EachFits, bit_number, packed}
use Rattle.hdt_seq.specs.Sequence.{with_crcs}
use Rattle.hdt_seq.specs.Width.{greatest, width_of}
use Rattle.hdt_seq.specs.Laws.Width.{width_fits}
use Rattle.hdt_triples.specs.Laws.Group.{length-group_end_bits}
use Rattle.hdt_triples.specs.TripleSequences.{Triple}
use Rattle.hdt_triples.specs.Writing.{all_pairs, canonical_sequences, canonical_triples, distinct_pairs, order_property}
use Rattle.hdt_triples.specs.Writing.{pair_eq, sequences_of}
use Rattle.hdt_build.specs.declared.scratch_sequences.EntryMeasure.{EntryMeasure}
use Rattle.hdt_build.specs.declared.scratch_sequences.TripleMeasures.{TripleMeasures}
use Rattle.hdt_build.specs.declared.triple_entries.Sequence.{Sequence}
use Rattle.hdt_build.specs.declared.triple_entries.Sequence.TheVariants.{PairEnds, TripleEnds, Predicates, Objects}
use Rattle.hdt_build.specs.Inside.EntryWriting.{EntryState, IsWritingEntries}
use Rattle.hdt_build.specs.Inside.Output.{OutputState, Puts}
use Rattle.hdt_build.specs.Inside.ScratchSequences.{AreMeasures, HaveMeasured, HaveWrittenEntries, IsMeasureOf}
use Rattle.hdt_build.specs.Inside.ScratchSequences.{sequence_encoding, sequence_head, sequence_width}
use Rattle.hdt_build.specs.Inside.TripleEntries.{entries_of, entry_at, with_entry}
use Rattle.hdt_build.specs.Inside.TripleRuns.{first_of}
use Rattle.hdt_build.proofs.EntryWriting.{written_bits, written_numbers}
use Rattle.hdt_build.proofs.Outputs.{puts_then}
use Rattle.hdt_build.proofs.PackedNumbers.{width_of_greatest}
use Rattle.hdt_build.proofs.TripleEntries.{entries_step, many_objects, many_predicates}

-- ---- measures

-- the entry of a triple is next to be measured, if it has one
pub triple_ahead : (q : Sequence) (t : Triple) (all : List ℕ) (old new : List Triple) (found : Option ℕ)
    (next : Option Triple) (m : EntryMeasure) → old ≡ t ∷ new → found ≡ entry_at q t next → next ≡ first_of new
    → HaveMeasured all (entries_of q old) m → HaveMeasured all (with_entry found (entries_of q new)) m
triple_ahead q t all old new found next m taken of at h =
    subst (λ (es : List ℕ). HaveMeasured all es m)
    (entries_step q t old new found taken (of ∙ ap (entry_at q t) at)) h

pub one_measured : (all rest : List ℕ) (x : ℕ) (old new : EntryMeasure) → new.count ≡ old.count + 1
    → new.greatest ≡ max old.greatest x → HaveMeasured all (x ∷ rest) old → HaveMeasured all rest new
one_measured all rest x old new count most h = record {
  done = h.done ++ x ∷ [];
  measured = record {
    count_is = omega (arith, count, h.measured.count_is, length-append h.done (x ∷ []));
    greatest_is = most ∙ ap (λ (n : ℕ). max n x) h.measured.greatest_is ∙ sym (fold-append max 0 h.done (x ∷ []));
  };
  all_are = append_assoc h.done (x ∷ []) rest ∙ h.all_are;
}

pub all_measured : (all rest : List ℕ) (m : EntryMeasure) → rest ≡ [] → HaveMeasured all rest m → IsMeasureOf all m
all_measured all rest m none h =
    let all_are : h.done ≡ all =
    sym (append-nil h.done) ∙ ap (λ (xs : List ℕ). h.done ++ xs) (sym none) ∙ h.all_are in
    subst (λ (xs : List ℕ). IsMeasureOf xs m) all_are h.measured

-- the measures of all entries are those of the triples
pub measures_are : (ts : List Triple) (m : TripleMeasures)
    → IsMeasureOf (entries_of Predicates ts) (record { count = m.pairs; greatest = m.greatest_predicate })
    → IsMeasureOf (entries_of Objects ts) (record { count = m.triples; greatest = m.greatest_object })
    → AreMeasures ts m
measures_are ts m predicates objects = record {
  triples = objects.count_is ∙ many_objects ts;
  pairs = predicates.count_is ∙ many_predicates ts;
  predicate = predicates.greatest_is;
  object = objects.greatest_is;
}

-- ---- widths

bits_fit : (bs : List Bool) → EachFits 1 (map bit_number bs)
bits_fit [] i = omega arith
bits_fit (true ∷ bs) zero = omega arith
bits_fit (false ∷ bs) zero = omega arith
bits_fit (b ∷ bs) (suc i) = bits_fit bs i

numbers_fit : (xs : List ℕ) (most : ℕ) → most ≡ greatest xs → EachFits (width_of (most ∷ [])) xs
numbers_fit xs most is = subst (λ (w : ℕ). EachFits w xs) (sym (width_of_greatest xs most is)) (width_fits xs)

-- each entry fits the width of its sequence
pub entries_fit : (q : Sequence) (ts : List Triple) (m : TripleMeasures) → AreMeasures ts m
    → EachFits (sequence_width q m) (entries_of q ts)
unfolding entries_of
entries_fit PairEnds ts m h = bits_fit (sequences_of ts).bitmap_y
entries_fit TripleEnds ts m h = bits_fit (sequences_of ts).bitmap_z
entries_fit Predicates ts m h = numbers_fit (sequences_of ts).array_y m.greatest_predicate h.predicate
entries_fit Objects ts m h = numbers_fit (sequences_of ts).array_z m.greatest_object h.object

-- ---- sequences

-- as many pairs end as there are
pair_ends : (ts : List Triple) → length (sequences_of ts).bitmap_y ≡ length (distinct_pairs ts)
unfolding sequences_of
pair_ends ts =
    let ps = distinct_pairs ts in
    length-group_end_bits nat_eq (map (λ (p : ℕ × ℕ). p.0) ps) ∙ length-map ps (λ (p : ℕ × ℕ). p.0)

-- there is a bit for each triple
triple_ends : (ts : List Triple) → length (sequences_of ts).bitmap_z ≡ length ts
unfolding sequences_of
triple_ends ts =
    length-group_end_bits pair_eq (all_pairs ts) ∙ length-map ts (λ (t : Triple). (t.0, t.1))

bits_are : (bs : List Bool) (count : ℕ) → count ≡ length bs
    → with_crcs (1 ∷ vbyte count) (packed 1 (map bit_number bs)) ≡ bits_encoding bs
bits_are bs count is =
    ap (λ (n : ℕ). with_crcs (1 ∷ vbyte n) (packed 1 (map bit_number bs))) is ∙ written_bits bs

numbers_are : (xs : List ℕ) (count most : ℕ) → count ≡ length xs → most ≡ greatest xs
    → with_crcs (1 ∷ width_of (most ∷ []) ∷ vbyte count) (packed (width_of (most ∷ [])) xs) ≡ numbers_encoding xs
numbers_are xs count most count_is most_is =
    ap (λ (w : ℕ). with_crcs (1 ∷ w ∷ vbyte count) (packed w xs)) (width_of_greatest xs most most_is)
    ∙ ap (λ (n : ℕ). with_crcs (1 ∷ width_of xs ∷ vbyte n) (packed (width_of xs) xs)) count_is
    ∙ written_numbers xs

-- what is written of a sequence is its encoding
pub encoding_is : (q : Sequence) (ts : List Triple) (m : TripleMeasures) → AreMeasures ts m
    → with_crcs (sequence_head q m) (packed (sequence_width q m) (entries_of q ts))
    ≡ sequence_encoding q (sequences_of ts)
unfolding entries_of
encoding_is PairEnds ts m h = bits_are (sequences_of ts).bitmap_y m.pairs (h.pairs ∙ sym (pair_ends ts))
encoding_is TripleEnds ts m h = bits_are (sequences_of ts).bitmap_z m.triples (h.triples ∙ sym (triple_ends ts))
encoding_is Predicates ts m h =
    numbers_are (sequences_of ts).array_y m.pairs m.greatest_predicate (h.pairs ∙ sym (many_predicates ts)) h.predicate
encoding_is Objects ts m h =
    numbers_are (sequences_of ts).array_z m.triples m.greatest_object (h.triples ∙ sym (many_objects ts)) h.object

-- all sequences, one after another
pub puts_triples : (ts : List Triple) (a b c d e f : OutputState) → let sequences = sequences_of ts in
    Puts a b (control kinds.Triples order_property) → Puts b c (sequence_encoding PairEnds sequences)
    → Puts c d (sequence_encoding TripleEnds sequences) → Puts d e (sequence_encoding Predicates sequences)
    → Puts e f (sequence_encoding Objects sequences) → Puts a f (canonical_triples ts)
unfolding canonical_sequences
puts_triples ts a b c d e f head one two three four =
    puts_then a b f _ _ head (puts_then b c f _ _ one (puts_then c d f _ _ two (puts_then d e f _ _ three four)))

-- ---- one entry after another

module _ (before : OutputState) (head : List ℕ) (width : ℕ) (all : List ℕ) where
  entry_fits : EachFits width all → (done rest : List ℕ) (x : ℕ) → done ++ x ∷ rest ≡ all → x < 2 ^ width
  entry_fits fits done rest x is =
      subst (λ (y : ℕ). y < 2 ^ width) (get_or-append-add done (x ∷ rest) 0 0)
      (subst (EachFits width) (sym is) fits (length done + 0))

  pub more_written : EachFits width all → (old rest : List ℕ) (x : ℕ) (w v : EntryState) → old ≡ x ∷ rest
      → ((before : OutputState) (head xs : List ℕ) (width : ℕ) → x < 2 ^ width → IsWritingEntries before head width xs w
      → IsWritingEntries before head width (xs ++ x ∷ []) v)
      → HaveWrittenEntries before head width all old w → HaveWrittenEntries before head width all rest v
  more_written fits old rest x w v taken more h =
      let is : h.done ++ x ∷ rest ≡ all = ap (λ (xs : List ℕ). h.done ++ xs) (sym taken) ∙ h.all_are in
      record {
        done = h.done ++ x ∷ [];
        writing = more before head h.done width (entry_fits fits h.done rest x is) h.writing;
        all_are = append_assoc h.done (x ∷ []) rest ∙ is;
      }

  pub all_written : (rest : List ℕ) (w : EntryState) → rest ≡ [] → HaveWrittenEntries before head width all rest w
      → IsWritingEntries before head width all w
  all_written rest w none h =
      let all_are : h.done ≡ all =
      sym (append-nil h.done) ∙ ap (λ (xs : List ℕ). h.done ++ xs) (sym none) ∙ h.all_are in
      subst (λ (xs : List ℕ). IsWritingEntries before head width xs w) all_are h.writing

-- ---- errors

-- what a result says of its value, after its error was mapped
pub mapped_ok : {A E D : Type 0} (r : Result A E) (s : Result A D) (v : A) (P : A → Type 0) (Q : E → Type 0)
    → MatchResult r (λ x. s ≡ Ok x) Q → is_ok s ≡ is_ok r → s ≡ Ok v → IfOk r P → P v
mapped_ok {A} {E} {D} (Ok x) s v P Q cases variant is h =
    IfOk-at_ok P is (subst (λ (o : Result A D). IfOk o P) (sym cases) h)
mapped_ok {A} {E} {D} (Err e) s v P Q cases variant is h =
    let none : true ≡ false = sym (ap is_ok is) ∙ variant in absurd cc
