-- The checks of the triples part are exact: they pass exactly for a valid encoding.
use Rattle.std.proofs.Common.{◌≡◌, ℕ, zero, suc, ◌+◌, ◌-◌, ◌<◌, ◌≤◌, ◌&&◌, Bool, true, false, List, length, get_or}
use Rattle.std.proofs.Common.{slice_get, slice_index, eqb, ltb, leb, Option, Some, None, inl, inr, refl, sym, ap, subst}
use Rattle.std.proofs.Common.{◌∙◌, arith, add-one, cond}
use Rattle.std.specs.Prelude.{codes, OnOk, Result, Ok, Err}
use Rattle.hdt_wire.specs.declared.fault.Fault.{Fault}
use Rattle.std.proofs.lemmas.Bool.{cases_lt, and_parts, eqb-true, ltb-true, lt-ltb, leb-true, le-leb}
use Rattle.std.proofs.lemmas.Bool.Decides.{Decides-eqb}
use Rattle.std.proofs.lemmas.List.{get_or_past}
use Rattle.std.proofs.lemmas.Option.{slice_get-get_or, get_or_from_slice_get}
use Rattle.std.proofs.lemmas.Slice.Eq.{bytes_eq-Decides}
use Rattle.hdt_wire.specs.declared.fault.Reason.{Reason}
use Rattle.hdt_wire.specs.declared.fault.Reason.TheVariants.{TripleOrder, LengthsDiffer, LastMark, MarkCount}
use Rattle.hdt_wire.specs.declared.fault.Reason.TheVariants.{SubjectRange, PredicateRange, ObjectRange}
use Rattle.hdt_wire.specs.declared.fault.Reason.TheVariants.{PredicatesNotAscending, ObjectsNotAscending}
use Rattle.hdt_wire.specs.declared.control.Kind.TheVariants as kinds
use Rattle.hdt_wire.specs.Checks.{IsBytes}
use Rattle.hdt_wire.specs.Laws.Checks.{bind_ok, demand_ok}
use Rattle.hdt_wire.specs.Control.{control_at}
use Rattle.hdt_wire.specs.Property.{property_value}
use Rattle.hdt_seq.specs.Sequence.{Sequence, entry_offset}
use Rattle.hdt_seq.specs.Numbers.{numbers_at}
use Rattle.hdt_seq.specs.Bits.{bits_at}
use Rattle.hdt_seq.specs.RankSelect.{ones_before}
use Rattle.hdt_seq.specs.Laws.RankSelect.{ones_before_after_1_bit, ones_before_after_0_bit}
use Rattle.hdt_wire.specs.Exact.{Exactly}
use Rattle.hdt_wire.specs.Laws.Exact.{holds_of_ok, holds_if_ok, item_checks_exact}
use Rattle.hdt_seq.specs.Laws.ExactSequences.{numbers_exact, bits_exact}
use Rattle.hdt_wire.specs.Laws.ExactPrimitives.{control_exact}
use Rattle.hdt_triples.specs.TripleSequences.{AreAscendingGroups, AreValidSequences}
use Rattle.hdt_triples.specs.declared.pattern.Counts.{Counts}
use Rattle.hdt_triples.specs.Triples.{TripleParts, IsTriplesAt, bitmap_triples_of_sequences, sequence_checks}
use Rattle.hdt_triples.specs.Triples.{is_spo_order, previous_in_group, entry_checks, pair_checks, last_bit}
use Rattle.hdt_triples.specs.Triples.{all_pair_checks, all_object_checks, decode_triple_parts}

-- ---- the property `order`, and the last bits

one_found : (value : Option (List ℕ)) → is_spo_order value ≡ true → value ≡ Some (codes "1")
one_found None e = absurd (cc)
one_found (Some value) e = ap (λ (v : List ℕ). Some v) ((bytes_eq-Decides value (codes "1")).0 e)

one_only : (value : Option (List ℕ)) → value ≡ Some (codes "1") → is_spo_order value ≡ true
one_only value e = ap is_spo_order e ∙ (bytes_eq-Decides (codes "1") (codes "1")).1 refl

mark_here : (marks : List Bool) (i : ℕ) → get_or marks i false ≡ true → slice_get marks i ≡ Some true
mark_here marks i e =
    elim (cases_lt i (length marks)) [
      | inl lt ↦ slice_get-get_or marks i false lt ∙ ap (λ (b : Bool). Some b) e
      | inr le ↦ absurd (let p = get_or_past marks i false le in cc)
    ]

-- ---- numbers in groups

-- What the checks of an entry establish.
record EntryHolds (marks : List Bool) (xs : List ℕ) (count i : ℕ) : Type 0 where
  from : 1 ≤ slice_index xs i
  to : slice_index xs i ≤ count
  later : previous_in_group marks xs i < slice_index xs i

entry_exact : (marks : List Bool) (xs : Sequence ℕ) (count : ℕ) (range ascent : Reason) (i : ℕ)
    → Exactly (entry_checks marks xs count range ascent i) (λ _. EntryHolds marks xs.items count i)
unfolding entry_checks
entry_exact marks xs count range ascent i =
    let x : ℕ = slice_index xs.items i in
    record {
      found = λ u e.
          demand_ok (leb 1 x && leb x count) (entry_offset xs.offsets i) range _ u e (λ h e.
          let both = and_parts (leb 1 x) (leb x count) h in
          record {
            from = leb-true 1 x both.0;
            to = leb-true x count both.1;
            later = ltb-true _ _
                (holds_if_ok (ltb (previous_in_group marks xs.items i) x) (entry_offset xs.offsets i) ascent u e);
          });
      only = λ u h.
          rw (le-leb 1 x h.from, le-leb x count h.to, lt-ltb (previous_in_group marks xs.items i) x h.later) refl;
    }

earlier_by : (marks : List Bool) (xs : List ℕ) (i : ℕ) (b : Bool) → get_or marks i false ≡ b
    → previous_in_group marks xs (i + 1) ≡ cond b 0 (slice_index xs i)
unfolding previous_in_group
earlier_by marks xs i b h = ap (previous_in_group marks xs) (add-one i) ∙ ap (λ b. cond b 0 (slice_index xs i)) h

-- Entry i + 1 continues the group of entry i, or begins one.
ascend_by : (marks : List Bool) (xs : List ℕ) (i : ℕ) (b : Bool) → i < length marks → get_or marks i false ≡ b
    → previous_in_group marks xs (i + 1) < slice_index xs (i + 1)
    → ones_before marks i ≡ ones_before marks (i + 1) → slice_index xs i < slice_index xs (i + 1)
ascend_by marks xs i true lt is later same =
    absurd (omega (arith, same, ones_before_after_1_bit marks i (mark_here marks i is)))
ascend_by marks xs i false lt is later same = omega (arith, later, earlier_by marks xs i false is)

later_by : (marks : List Bool) (xs : List ℕ) (i : ℕ) (b : Bool) → i < length marks → get_or marks i false ≡ b
    → 1 ≤ slice_index xs (i + 1)
    → (ones_before marks i ≡ ones_before marks (i + 1) → slice_index xs i < slice_index xs (i + 1))
    → previous_in_group marks xs (i + 1) < slice_index xs (i + 1)
later_by marks xs i true lt is from ascend = omega (arith, from, earlier_by marks xs i true is)
later_by marks xs i false lt is from ascend =
    let same = ones_before_after_0_bit marks i (slice_get-get_or marks i false lt ∙ ap (λ (b : Bool). Some b) is) in
    omega (arith, ascend (sym same), earlier_by marks xs i false is)

first_later : (marks : List Bool) (xs : List ℕ) → 1 ≤ slice_index xs 0 → previous_in_group marks xs 0 < slice_index xs 0
unfolding previous_in_group
first_later marks xs h = h

each_later : (marks : List Bool) (xs : List ℕ) (count : ℕ) → length marks ≡ length xs
    → AreAscendingGroups marks xs count → (i : ℕ) → i < length xs → previous_in_group marks xs i < slice_index xs i
each_later marks xs count same h zero lt = first_later marks xs (h.from 0 lt)
each_later marks xs count same h (suc i) lt =
    let next : i + 1 ≡ suc i = add-one i in
    let below : i + 1 < length xs = omega (arith, lt) in
    subst (λ (k : ℕ). previous_in_group marks xs k < slice_index xs k) next
    (later_by marks xs i (get_or marks i false) (omega (arith, same, lt)) refl (h.from (i + 1) below)
    (h.ascend i below))

grouped_found : (marks : List Bool) (xs : List ℕ) (count : ℕ) → length marks ≡ length xs
    → ((i : ℕ) → i < length xs → EntryHolds marks xs count i) → AreAscendingGroups marks xs count
grouped_found marks xs count same each = record {
  from = λ i lt. (each i lt).from;
  to = λ i lt. (each i lt).to;
  ascend = λ i lt. ascend_by marks xs i (get_or marks i false) (omega (arith, same, lt)) refl (each (i + 1) lt).later;
}

grouped_only : (marks : List Bool) (xs : List ℕ) (count : ℕ) → length marks ≡ length xs
    → AreAscendingGroups marks xs count → (i : ℕ) → i < length xs → EntryHolds marks xs count i
grouped_only marks xs count same h i lt =
    record { from = h.from i lt; to = h.to i lt; later = each_later marks xs count same h i lt }

-- ---- pairs and triples

record ArePairs (counts : Counts) (bitmap_y : List Bool) (array_y : List ℕ) : Type 0 where
  subjects : (q : ℕ) → q < length array_y → ones_before bitmap_y q + 1 ≤ counts.subjects
  predicates : AreAscendingGroups bitmap_y array_y counts.predicates

record PairHolds (counts : Counts) (bitmap_y : List Bool) (array_y : List ℕ) (q : ℕ) : Type 0 where
  subject : ones_before bitmap_y q + 1 ≤ counts.subjects
  predicate : EntryHolds bitmap_y array_y counts.predicates q

pair_exact : (counts : Counts) (bits : Sequence Bool) (predicates : Sequence ℕ) (q : ℕ)
    → Exactly (pair_checks counts bits predicates q) (λ _. PairHolds counts bits.items predicates.items q)
unfolding pair_checks
pair_exact counts bits predicates q =
    let entry = entry_exact bits.items predicates counts.predicates PredicateRange PredicatesNotAscending q in
    record {
      found = λ u e.
          demand_ok (leb (ones_before bits.items q + 1) counts.subjects) (entry_offset bits.offsets q) SubjectRange _ u
          e (λ h e. record { subject = leb-true _ _ h; predicate = entry.found u e });
      only = λ u h.
          rw (le-leb (ones_before bits.items q + 1) counts.subjects h.subject, entry.only tt h.predicate) refl;
    }

pairs_exact : (counts : Counts) (bits : Sequence Bool) (predicates : Sequence ℕ)
    → length bits.items ≡ length predicates.items
    → Exactly (all_pair_checks counts bits predicates) (λ _. ArePairs counts bits.items predicates.items)
pairs_exact counts bits predicates same =
    let rows = item_checks_exact (pair_checks counts bits predicates) (length predicates.items)
    (PairHolds counts bits.items predicates.items) (λ q lt. pair_exact counts bits predicates q) in
    record {
      found = λ u e. let each = rows.found u e in record {
        subjects = λ q lt. (each q lt).subject;
        predicates = grouped_found bits.items predicates.items counts.predicates same (λ q lt. (each q lt).predicate);
      };
      only = λ u h. rows.only u
          (λ q lt. record {
            subject = h.subjects q lt;
            predicate = grouped_only bits.items predicates.items counts.predicates same h.predicates q lt;
          });
    }

objects_exact : (marks : List Bool) (objects : Sequence ℕ) (count : ℕ) → length marks ≡ length objects.items
    → Exactly (all_object_checks marks objects count) (λ _. AreAscendingGroups marks objects.items count)
objects_exact marks objects count same =
    let rows = item_checks_exact (entry_checks marks objects count ObjectRange ObjectsNotAscending)
    (length objects.items) (EntryHolds marks objects.items count)
    (λ j lt. entry_exact marks objects count ObjectRange ObjectsNotAscending j) in
    record {
      found = λ u e. grouped_found marks objects.items count same (rows.found u e);
      only = λ u h. rows.only u (grouped_only marks objects.items count same h);
    }

-- ---- the four sequences together

pub sequence_checks_exact : (counts : Counts) (bitmap_y bitmap_z : Sequence Bool) (array_y array_z : Sequence ℕ)
    → Exactly (sequence_checks counts bitmap_y bitmap_z array_y array_z)
    (λ _. AreValidSequences counts (bitmap_triples_of_sequences bitmap_y bitmap_z array_y array_z))
unfolding sequence_checks
sequence_checks_exact counts bitmap_y bitmap_z array_y array_z = record {
  found = λ u e.
      demand_ok (eqb (length bitmap_y.items) (length array_y.items)) array_y.offsets.count LengthsDiffer _ _ e (λ h2 e.
      demand_ok (eqb (length bitmap_z.items) (length array_z.items)) array_z.offsets.count LengthsDiffer _ _ e (λ h3 e.
      demand_ok (last_bit bitmap_y.items) (entry_offset bitmap_y.offsets (length bitmap_y.items - 1)) LastMark _ _ e
      (λ h4 e.
      demand_ok (last_bit bitmap_z.items) (entry_offset bitmap_z.offsets (length bitmap_z.items - 1)) LastMark _ _ e
      (λ h5 e.
      demand_ok (eqb (ones_before bitmap_z.items (length bitmap_z.items)) (length array_y.items)) bitmap_z.offsets.count
      MarkCount _ _ e (λ h6 e.
      bind_ok (all_pair_checks counts bitmap_y array_y) _ _ e (λ v e6 e.
      let pairs = (pairs_exact counts bitmap_y array_y (eqb-true _ _ h2)).found v e6 in
      record {
        marked = record {
          pairs = eqb-true _ _ h2;
          triples = eqb-true _ _ h3;
          last_pair = mark_here bitmap_y.items (length bitmap_y.items - 1) h4;
          last_triple = mark_here bitmap_z.items (length bitmap_z.items - 1) h5;
          each_pair = eqb-true _ _ h6;
        };
        subjects = pairs.subjects;
        predicates = pairs.predicates;
        objects = (objects_exact bitmap_z.items array_z counts.objects (eqb-true _ _ h3)).found u e;
      }))))));
  only = λ u h.
      let m = h.marked in
      let t2 : eqb (length bitmap_y.items) (length array_y.items) ≡ true = (Decides-eqb _ _).1 m.pairs in
      let t3 : eqb (length bitmap_z.items) (length array_z.items) ≡ true = (Decides-eqb _ _).1 m.triples in
      let t4 = get_or_from_slice_get bitmap_y.items (length bitmap_y.items - 1) true false m.last_pair in
      let t5 = get_or_from_slice_get bitmap_z.items (length bitmap_z.items - 1) true false m.last_triple in
      let t6 : eqb (ones_before bitmap_z.items (length bitmap_z.items)) (length array_y.items) ≡ true =
      (Decides-eqb _ _).1 m.each_pair in
      let r6 = (pairs_exact counts bitmap_y array_y m.pairs).only tt
      (record { subjects = h.subjects; predicates = h.predicates }) in
      let r7 = (objects_exact bitmap_z.items array_z counts.objects m.triples).only u h.objects in
      rw (t2, t3, t4, t5, t6, r6, r7) refl;
}

-- What the four sequences satisfy if no check fails.
pub sequence_checks_found : (counts : Counts) (bitmap_y bitmap_z : Sequence Bool) (array_y array_z : Sequence ℕ)
    (r : Result (Unit {0}) Fault) → r ≡ sequence_checks counts bitmap_y bitmap_z array_y array_z
    → OnOk r (AreValidSequences counts (bitmap_triples_of_sequences bitmap_y bitmap_z array_y array_z))
sequence_checks_found counts bitmap_y bitmap_z array_y array_z (Ok u) e =
    (sequence_checks_exact counts bitmap_y bitmap_z array_y array_z).found u (sym e)
sequence_checks_found counts bitmap_y bitmap_z array_y array_z (Err f) e = tt

-- ---- the triples

pub triples_exact : (counts : Counts) (bytes : List ℕ) (at : ℕ) → IsBytes bytes
    → Exactly (decode_triple_parts counts bytes at) (λ t. IsTriplesAt counts t bytes at)
unfolding decode_triple_parts
triples_exact counts bytes at fits = record {
  found = λ t e.
      bind_ok (control_at kinds.Triples bytes at) _ _ e (λ control e1 e.
      demand_ok (is_spo_order (property_value control.properties (codes "order"))) control.properties_at TripleOrder
      _ _ e
      (λ h1 e.
      bind_ok (bits_at bytes control.end) _ _ e (λ bitmap_y e2 e.
      bind_ok (bits_at bytes bitmap_y.end) _ _ e (λ bitmap_z e3 e.
      bind_ok (numbers_at bytes bitmap_z.end) _ _ e (λ array_y e4 e.
      bind_ok (numbers_at bytes array_y.end) _ _ e (λ array_z e5 e.
      bind_ok (sequence_checks counts bitmap_y bitmap_z array_y array_z) _ _ e (λ u e6 e.
      holds_of_ok (λ (t : TripleParts). IsTriplesAt counts t bytes at) _ _ e (record {
        control = (control_exact kinds.Triples bytes at fits).found control e1;
        order = one_found _ h1;
        bitmap_y = (bits_exact bytes control.end fits).found bitmap_y e2;
        bitmap_z = (bits_exact bytes bitmap_y.end fits).found bitmap_z e3;
        array_y = (numbers_exact bytes bitmap_z.end fits).found array_y e4;
        array_z = (numbers_exact bytes array_y.end fits).found array_z e5;
        valid = (sequence_checks_exact counts bitmap_y bitmap_z array_y array_z).found u e6;
      }))))))));
  only = λ t h.
      let r1 = (control_exact kinds.Triples bytes at fits).only t.control h.control in
      let t1 = one_only _ h.order in
      let r2 = (bits_exact bytes t.control.end fits).only t.bitmap_y h.bitmap_y in
      let r3 = (bits_exact bytes t.bitmap_y.end fits).only t.bitmap_z h.bitmap_z in
      let r4 = (numbers_exact bytes t.bitmap_z.end fits).only t.array_y h.array_y in
      let r5 = (numbers_exact bytes t.array_y.end fits).only t.array_z h.array_z in
      let r6 = (sequence_checks_exact counts t.bitmap_y t.bitmap_z t.array_y t.array_z).only tt h.valid in
      rw (r1, t1, r2, r3, r4, r5, r6) refl;
}
