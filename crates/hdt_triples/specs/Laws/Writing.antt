-- The four sequences of writable triples are valid and encode these triples. Their bytes are read back, whatever
-- precedes and follows them.
use Rattle.std.proofs.Common.{◌≡◌, ℕ, ◌+◌, ◌<◌, ◌≤◌, ◌^◌, ◌&&◌, Bool, true, false, nat_eq, List, [], ◌∷◌, ◌++◌, length}
use Rattle.std.proofs.Common.{get_or, map, codes, Some, inl, inr, refl, ap, sym, ◌∙◌, subst, arith, eqb, not}
use Rattle.std.proofs.lemmas.Bool.{cases_lt, and_parts, eqb-true, eq-eqb, eqb-false}
use Rattle.std.proofs.lemmas.List.{get_or-map, get_or_past, length-map, get_or_default, same_lists}
use Rattle.std.proofs.lemmas.List.FromFn.{length-map-range_with_len, get_or-map-range_with_len}
use Rattle.std.proofs.lemmas.List.Sums.{AllPass-from_list_all}
use Rattle.hdt_wire.specs.declared.control.Kind.TheVariants as kinds
use Rattle.hdt_wire.specs.Checks.{HasSlice}
use Rattle.hdt_wire.specs.Laws.Checks.{not-true, HasSlice-front, HasSlice-back}
use Rattle.hdt_wire.specs.Control.{HasNoZero, control}
use Rattle.hdt_wire.specs.Property.{property_value}
use Rattle.hdt_seq.specs.RankSelect.{ones_before}
use Rattle.hdt_seq.specs.Laws.RankSelect.{ones_before_le}
use Rattle.hdt_seq.specs.Width.{width_of}
use Rattle.hdt_seq.specs.PackedBits.{EachFits}
use Rattle.hdt_seq.specs.Laws.Sequence.{byte_is, encoded_if_has_slice}
use Rattle.hdt_seq.specs.Numbers.{EncodesNumbers, numbers_encoding, expected_numbers_offsets}
use Rattle.hdt_seq.specs.Laws.NumbersReading.{numbers_encodes}
use Rattle.hdt_seq.specs.Bits.{EncodesBits, bits_encoding, expected_bits_offsets}
use Rattle.hdt_seq.specs.Laws.BitsReading.{bits_encodes}
use Rattle.hdt_seq.specs.ExactSequences.{IsLogSequenceAt, IsBitmapAt}
use Rattle.hdt_triples.specs.TripleSequences.{Triple, BitmapTriples, triple_at, triples_of, AreConsistentSequences}
use Rattle.hdt_triples.specs.TripleSequences.{AreAscendingGroups, AreValidSequences}
use Rattle.hdt_triples.specs.declared.pattern.Counts.{Counts}
use Rattle.hdt_triples.specs.Order.{nth_triple, TripleLess, CountsFit64, AreAtMostCounts, AreWritable}
use Rattle.hdt_triples.specs.Groups.{group_end_bits}
use Rattle.hdt_triples.specs.Laws.Group.{length-group_end_bits, last_end_bit_is_set, group_at, group_within, groups}
use Rattle.hdt_triples.specs.Laws.Group.{linked_groups, first_group, counted, all_groups, get_or-map_any}
use Rattle.hdt_triples.specs.Triples.{IsTriplesAt}
use Rattle.hdt_triples.specs.Writing.{pair_eq, all_pairs, distinct_pairs, sequences_of, order_property}
use Rattle.hdt_triples.specs.Writing.{canonical_sequences, sequences_parts, canonical_triples, canonical_triples_parts}

pub pair_exact : (x y : ℕ × ℕ) → pair_eq x y ≡ true → x ≡ y
pair_exact x y h =
    let both = and_parts (nat_eq x.0 y.0) (nat_eq x.1 y.1) h in
    same x.0 y.0 x.1 y.1 (eqb-true x.0 y.0 both.0) (eqb-true x.1 y.1 both.1)
  where
    same : (a b c d : ℕ) → a ≡ b → c ≡ d → let l : ℕ × ℕ = (a, c) in let r : ℕ × ℕ = (b, d) in l ≡ r
    same a b c d p q = cc

same_triple : (a b c d e f : ℕ) → a ≡ b → c ≡ d → e ≡ f → let l : Triple = (a, c, e) in let r : Triple = (b, d, f) in
    l ≡ r
same_triple a b c d e f p q r = cc

-- ---- neighbouring pairs

abbrev Rises : ℕ → ℕ → Type 0
Rises a b = (a ≤ b) × (b ≤ a + 1)

-- A pair and the next one: the subject is the same or the next ID; within a subject the predicate ascends.
record Follows (a b : ℕ × ℕ) : Type 0 where
  subject : Rises a.0 b.0
  predicate : a.0 ≡ b.0 → a.1 < b.1

abbrev pair_of_triple : Triple → ℕ × ℕ
pair_of_triple t = (t.0, t.1)

subject_rises : (a b : Triple) → TripleLess a b → b.0 ≤ a.0 + 1 → Rises a.0 b.0
subject_rises a b (inl lt) next = (omega arith, next)
subject_rises a b (inr same) next = (omega (arith, same.0), next)

both_true : (x y : Bool) → x ≡ true → y ≡ true → (x && y) ≡ false → ⊥
both_true true true e f h = cc
both_true true false e f h = cc
both_true false y e f h = cc

predicate_rises : (a b : Triple) → TripleLess a b → pair_eq (pair_of_triple b) (pair_of_triple a) ≡ false → a.0 ≡ b.0
    → a.1 < b.1
predicate_rises a b (inl lt) apart same = absurd (omega (arith, lt, same))
predicate_rises a b (inr (first, inl lt)) apart same = lt
predicate_rises a b (inr (first, inr one)) apart same =
    absurd (both_true (nat_eq b.0 a.0) (nat_eq b.1 a.1) (eq-eqb b.0 a.0 (sym first)) (eq-eqb b.1 a.1 (sym one.0)) apart)

object_rises : (a b : Triple) → TripleLess a b → a.0 ≡ b.0 → a.1 ≡ b.1 → a.2 < b.2
object_rises a b (inl lt) same alike = absurd (omega (arith, lt, same))
object_rises a b (inr (first, inl lt)) same alike = absurd (omega (arith, lt, alike))
object_rises a b (inr (first, inr one)) same alike = one.1

module _ (ts : List Triple) (can : AreWritable ts) where
  abbrev subjects : List ℕ
  subjects = map (λ (p : ℕ × ℕ). p.0) (distinct_pairs ts)

  abbrev f : BitmapTriples
  f = sequences_of ts

  size_is : length (all_pairs ts) ≡ length ts
  size_is = length-map ts pair_of_triple

  pair_is : (i : ℕ) (d : ℕ × ℕ) → i < length ts → get_or (all_pairs ts) i d ≡ pair_of_triple (nth_triple ts i)
  pair_is i d lt = get_or-map pair_of_triple ts i (0, 0, 0) d lt

  -- ---- the pairs

  pairs_follow : (i : ℕ) (d : ℕ × ℕ) → i + 1 < length (all_pairs ts)
      → pair_eq (get_or (all_pairs ts) (i + 1) d) (get_or (all_pairs ts) i d) ≡ false
      → Follows (get_or (all_pairs ts) i d) (get_or (all_pairs ts) (i + 1) d)
  pairs_follow i d lt =
      let size = size_is in
      let below : i + 1 < length ts = omega (arith, size, lt) in
      let less = can.ascend i below in
      rw (pair_is i d (omega (arith, below)), pair_is (i + 1) d below) (λ apart. record {
        subject = subject_rises (nth_triple ts i) (nth_triple ts (i + 1)) less (can.next i below);
        predicate = predicate_rises (nth_triple ts i) (nth_triple ts (i + 1)) less apart;
      })

  groups_follow : (i : ℕ) (d : ℕ × ℕ) → i + 1 < length (distinct_pairs ts)
      → Follows (get_or (distinct_pairs ts) i d) (get_or (distinct_pairs ts) (i + 1) d)
  groups_follow = linked_groups pair_eq pair_exact Follows (all_pairs ts) pairs_follow

  many_subjects : length subjects ≡ length (distinct_pairs ts)
  many_subjects = length-map (distinct_pairs ts) (λ (p : ℕ × ℕ). p.0)

  many_predicates : length (map (λ (p : ℕ × ℕ). p.1) (distinct_pairs ts)) ≡ length (distinct_pairs ts)
  many_predicates = length-map (distinct_pairs ts) (λ (p : ℕ × ℕ). p.1)

  subjects_rise : (i d : ℕ) → i + 1 < length subjects → (get_or subjects i d ≤ get_or subjects (i + 1) d)
      × (get_or subjects (i + 1) d ≤ get_or subjects i d + 1)
  subjects_rise i d h =
      let size = many_subjects in
      let here = get_or-map (λ (p : ℕ × ℕ). p.0) (distinct_pairs ts) i (0, 0) d (omega arith) in
      let next = get_or-map (λ (p : ℕ × ℕ). p.0) (distinct_pairs ts) (i + 1) (0, 0) d (omega arith) in
      let r = (groups_follow i (0, 0) (omega arith)).subject in
      (omega (arith, here, next, r.0), omega (arith, here, next, r.1))

  subjects_first : (d : ℕ) → 0 < length subjects → get_or subjects 0 d ≡ 1
  subjects_first d h =
      let size = many_subjects in
      get_or-map (λ (p : ℕ × ℕ). p.0) (distinct_pairs ts) 0 (0, 0) d (omega arith)
      ∙ ap (λ (p : ℕ × ℕ). p.0) (first_group pair_eq (all_pairs ts) (0, 0) ∙ pair_is 0 (0, 0) can.some)
      ∙ can.first

  -- The subject of pair q, by counting 1-bits.
  subject_is : (q : ℕ) → q < length (distinct_pairs ts)
      → ones_before f.bitmap_y q + 1 ≡ (get_or (distinct_pairs ts) q (0, 0)).0
  unfolding sequences_of
  subject_is q lt = sym (counted subjects subjects_first subjects_rise q 0 (omega (arith, many_subjects, lt)))
      ∙ get_or-map_any (λ (p : ℕ × ℕ). p.0) (distinct_pairs ts) q (0, 0)

  predicate_is : (q : ℕ) → get_or f.array_y q 0 ≡ (get_or (distinct_pairs ts) q (0, 0)).1
  unfolding sequences_of
  predicate_is q = get_or-map_any (λ (p : ℕ × ℕ). p.1) (distinct_pairs ts) q (0, 0)

  object_is : (j : ℕ) → get_or f.array_z j 0 ≡ (nth_triple ts j).2
  unfolding sequences_of
  object_is j = get_or-map_any (λ (t : Triple). t.2) ts j (0, 0, 0)

  -- ---- the encoded triples

  pair_there : (j : ℕ) → j < length ts → ones_before f.bitmap_z j < length (distinct_pairs ts)
  unfolding sequences_of
  pair_there j lt = group_within pair_eq pair_exact (all_pairs ts) j (omega (arith, size_is, lt))

  pair_at_index : (j : ℕ) → j < length ts → get_or (distinct_pairs ts) (ones_before f.bitmap_z j) (0, 0)
      ≡ pair_of_triple (nth_triple ts j)
  unfolding sequences_of
  pair_at_index j lt = group_at pair_eq pair_exact (all_pairs ts) j (0, 0) (omega (arith, size_is, lt))
      ∙ pair_is j (0, 0) lt

  counted_triple : (j : ℕ) → j < length ts → triple_at f j ≡ nth_triple ts j
  counted_triple j lt =
      let q = ones_before f.bitmap_z j in
      let pair = pair_at_index j lt in
      same_triple _ _ _ _ _ _
      (subject_is q (pair_there j lt) ∙ ap (λ (p : ℕ × ℕ). p.0) pair)
      (predicate_is q ∙ ap (λ (p : ℕ × ℕ). p.1) pair)
      (object_is j)

  pub many_objects : length f.array_z ≡ length ts
  unfolding sequences_of
  many_objects = length-map ts (λ (t : Triple). t.2)

  pub triples_are : triples_of f ≡ ts
  unfolding triples_of
  triples_are =
      let size = many_objects in
      same_lists (triples_of f) ts (length-map-range_with_len (triple_at f) 0 (length f.array_z) ∙ size) (λ k d below.
      let within : k < length ts =
      omega (arith, size, length-map-range_with_len (triple_at f) 0 (length f.array_z), below) in
      get_or-map-range_with_len (triple_at f) 0 (length f.array_z) k k d (omega (arith, size, within)) (omega arith)
      ∙ counted_triple k within ∙ get_or_default ts k (0, 0, 0) d within)

  -- ---- the sequences are consistent

  marked : AreConsistentSequences f
  unfolding sequences_of
  marked =
      let pairs = size_is in
      let some = can.some in
      let many = group_within pair_eq pair_exact (all_pairs ts) 0 (omega (arith, pairs, some)) in
      let firsts = many_subjects in
      record {
        pairs = length-group_end_bits nat_eq subjects ∙ firsts ∙ sym many_predicates;
        triples = length-group_end_bits pair_eq (all_pairs ts) ∙ pairs ∙ sym (length-map ts (λ (t : Triple). t.2));
        last_pair = last_end_bit_is_set nat_eq subjects (omega (arith, firsts, many));
        last_triple = last_end_bit_is_set pair_eq (all_pairs ts) (omega (arith, pairs, some));
        each_pair = groups pair_eq pair_exact (all_pairs ts) ∙ sym many_predicates;
      }

  -- There is at least one pair, and at most as many as triples.
  pairs_few : (0 < length f.array_y) × (length f.array_y ≤ length ts)
  unfolding sequences_of
  pairs_few =
      let here = pair_there 0 can.some in
      let each = groups pair_eq pair_exact (all_pairs ts) in
      let most = ones_before_le (group_end_bits pair_eq (all_pairs ts))
      (length (group_end_bits pair_eq (all_pairs ts))) in
      let size = length-group_end_bits pair_eq (all_pairs ts) ∙ size_is in
      (omega (arith, many_predicates, here), omega (arith, many_predicates, each, most, size))

  -- Neither bitmap is empty.
  pub some_marks : (0 < length f.bitmap_y) × (0 < length f.bitmap_z)
  some_marks = let m = marked in let pairs = pairs_few in let size = many_objects in let some = can.some in
      (omega (arith, m.pairs, pairs.0), omega (arith, m.triples, size, some))

  module _ (counts : Counts) (within : AreAtMostCounts counts ts) where
    abbrev HasRange : ℕ × ℕ → Type 0
    HasRange p = (p.0 ≤ counts.subjects) × (1 ≤ p.1) × (p.1 ≤ counts.predicates)

    groups_range : (q : ℕ) (d : ℕ × ℕ) → q < length (distinct_pairs ts) → HasRange (get_or (distinct_pairs ts) q d)
    groups_range = all_groups pair_eq HasRange (all_pairs ts) (λ i d lt.
        let below : i < length ts = omega (arith, size_is, lt) in
        let most = within i below in
        subst HasRange (sym (pair_is i d below)) (most.0, can.predicates i below, most.1))

    many : (q : ℕ) → q < length f.array_y → q < length (distinct_pairs ts)
    unfolding sequences_of
    many q lt = omega (arith, many_predicates, lt)

    pairs_grouped : AreAscendingGroups f.bitmap_y f.array_y counts.predicates
    pairs_grouped = record {
      from = λ q lt. let r = (groups_range q (0, 0) (many q lt)).1 in let e = predicate_is q in omega (arith, r, e);
      to = λ q lt. let r = (groups_range q (0, 0) (many q lt)).2 in let e = predicate_is q in omega (arith, r, e);
      ascend = λ q lt same.
          let here = many q (omega (arith, lt)) in
          let next = many (q + 1) lt in
          let alike : (get_or (distinct_pairs ts) q (0, 0)).0 ≡ (get_or (distinct_pairs ts) (q + 1) (0, 0)).0 =
          omega (arith, same, subject_is q here, subject_is (q + 1) next) in
          omega (arith, predicate_is q, predicate_is (q + 1), (groups_follow q (0, 0) next).predicate alike);
    }

    objects_grouped : AreAscendingGroups f.bitmap_z f.array_z counts.objects
    objects_grouped =
        let size = many_objects in
        record {
          from = λ j lt. let r = can.objects j (omega (arith, size, lt)) in let e = object_is j in omega (arith, r, e);
          to = λ j lt. let r = (within j (omega (arith, size, lt))).2 in let e = object_is j in omega (arith, r, e);
          ascend = λ j lt same.
              let next : j + 1 < length ts = omega (arith, size, lt) in
              let one : pair_of_triple (nth_triple ts j) ≡ pair_of_triple (nth_triple ts (j + 1)) =
              sym (pair_at_index j (omega (arith, next))) ∙ ap (λ (q : ℕ). get_or (distinct_pairs ts) q (0, 0)) same
              ∙ pair_at_index (j + 1) next in
              omega (
                arith,
                object_is j,
                object_is (j + 1),
                object_rises (nth_triple ts j) (nth_triple ts (j + 1)) (can.ascend j next)
                    (ap (λ (p : ℕ × ℕ). p.0) one) (ap (λ (p : ℕ × ℕ). p.1) one),
              );
        }

    pub sequences_valid : AreValidSequences counts f
    sequences_valid = record {
      marked = marked;
      subjects = λ q lt. let r = (groups_range q (0, 0) (many q lt)).0 in let e = subject_is q (many q lt) in
          omega (arith, r, e);
      predicates = pairs_grouped;
      objects = objects_grouped;
    }

    most_numbers : counts.predicates < 2 ^ 64 → EachFits 64 f.array_y
    most_numbers low = λ q. elim (cases_lt q (length (distinct_pairs ts))) [
      | inl lt ↦ let r = (groups_range q (0, 0) lt).2 in let e = predicate_is q in omega (arith, r, e, low)
      | inr le ↦ let e = predicate_is q ∙ ap (λ (p : ℕ × ℕ). p.1) (get_or_past (distinct_pairs ts) q (0, 0) le) in
          omega (arith, e)
    ]

    most_objects : counts.objects < 2 ^ 64 → EachFits 64 f.array_z
    most_objects low = λ j. elim (cases_lt j (length ts)) [
      | inl lt ↦ let r = (within j lt).2 in let e = object_is j in omega (arith, r, e, low)
      | inr le ↦ let e = object_is j ∙ ap (λ (t : Triple). t.2) (get_or_past ts j (0, 0, 0) le) in omega (arith, e)
    ]

-- ---- the bytes

-- The property text has no zero byte.
pub ordered_no_zero : HasNoZero order_property
ordered_no_zero = λ k d lt. eqb-false _ _
    (not-true _ (AllPass-from_list_all (λ b. not (eqb b 0)) order_property refl k d lt))

ordered_is : property_value order_property (codes "order") ≡ Some (codes "1")
unfolding property_value
ordered_is = refl

width_stands : (bytes : List ℕ) (at end : ℕ) (xs : List ℕ) → HasSlice bytes at (numbers_encoding xs) end
    → get_or bytes (at + 1) 0 ≡ width_of xs
unfolding numbers_encoding
width_stands bytes at end xs h =
    byte_is bytes (at + 1) (width_of xs) (at + 1 + 1)
    (HasSlice-front bytes (at + 1) (width_of xs ∷ []) _ end (HasSlice-back bytes at (1 ∷ []) _ end h))

numbers_stand : (bytes : List ℕ) (at end : ℕ) (xs : List ℕ) → length xs < 2 ^ 64 → EachFits 64 xs
    → HasSlice bytes at (numbers_encoding xs) end
    → IsLogSequenceAt (record {
      items = xs;
      offsets = expected_numbers_offsets at (width_of xs) (length xs);
      end =
          end;
    }) bytes at
numbers_stand bytes at end xs few fits h = record {
  spelled = encoded_if_has_slice EncodesNumbers bytes at (numbers_encoding xs) xs end h (numbers_encodes xs few fits);
  offsets = ap (λ (w : ℕ). expected_numbers_offsets at w (length xs)) (sym (width_stands bytes at end xs h));
}

bits_stand : (bytes : List ℕ) (at end : ℕ) (xs : List Bool) → 0 < length xs → length xs < 2 ^ 64
    → HasSlice bytes at (bits_encoding xs) end
    → IsBitmapAt (record { items = xs; offsets = expected_bits_offsets at (length xs); end = end }) bytes at
bits_stand bytes at end xs some few h = record {
  spelled = encoded_if_has_slice EncodesBits bytes at (bits_encoding xs) xs end h (bits_encodes xs some few);
  offsets = refl;
}

-- Four valid sequences whose lengths and entries are below 2^64.
record CanStand (counts : Counts) (f : BitmapTriples) : Type 0 where
  valid : AreValidSequences counts f
  some_pairs : 0 < length f.bitmap_y
  some_triples : 0 < length f.bitmap_z
  few_pairs : length f.array_y < 2 ^ 64
  few_triples : length f.array_z < 2 ^ 64
  predicates_fit : EachFits 64 f.array_y
  objects_fit : EachFits 64 f.array_z

sequences_stand : (counts : Counts) (f : BitmapTriples) (bytes : List ℕ) (at end : ℕ) → CanStand counts f
    → HasSlice bytes at (canonical_sequences f) end → IsTriplesAt counts (sequences_parts f at) bytes at
unfolding canonical_sequences sequences_parts
sequences_stand counts f bytes at end can h =
    let block : List ℕ = control kinds.Triples order_property in
    let bitmap_y : List ℕ = bits_encoding f.bitmap_y in
    let bitmap_z : List ℕ = bits_encoding f.bitmap_z in
    let array_y : List ℕ = numbers_encoding f.array_y in
    let array_z : List ℕ = numbers_encoding f.array_z in
    let a : ℕ = at + length block in
    let b : ℕ = a + length bitmap_y in
    let c : ℕ = b + length bitmap_z in
    let d : ℕ = c + length array_y in
    let front = HasSlice-front bytes at block (bitmap_y ++ (bitmap_z ++ (array_y ++ array_z))) end h in
    let t1 = HasSlice-back bytes at block (bitmap_y ++ (bitmap_z ++ (array_y ++ array_z))) end h in
    let t2 = HasSlice-back bytes a bitmap_y (bitmap_z ++ (array_y ++ array_z)) end t1 in
    let t3 = HasSlice-back bytes b bitmap_z (array_y ++ array_z) end t2 in
    let t4 = HasSlice-back bytes c array_y array_z end t3 in
    let last : HasSlice bytes d array_z (d + length array_z) =
    subst (λ (e : ℕ). HasSlice bytes d array_z e) t4.end_is t4 in
    let m = can.valid.marked in
    record {
      control = record { spelled = front; no_zero = ordered_no_zero; format = refl; properties_at = refl };
      order = ordered_is;
      bitmap_y = bits_stand bytes a b f.bitmap_y can.some_pairs (omega (arith, m.pairs, can.few_pairs))
          (HasSlice-front bytes a bitmap_y (bitmap_z ++ (array_y ++ array_z)) end t1);
      bitmap_z = bits_stand bytes b c f.bitmap_z can.some_triples (omega (arith, m.triples, can.few_triples))
          (HasSlice-front bytes b bitmap_z (array_y ++ array_z) end t2);
      array_y = numbers_stand bytes c d f.array_y can.few_pairs can.predicates_fit
          (HasSlice-front bytes c array_y array_z end t3);
      array_z = numbers_stand bytes d (d + length array_z) f.array_z can.few_triples can.objects_fit last;
      valid = can.valid;
    }

pub triples_stand : (ts : List Triple) (counts : Counts) (bytes : List ℕ) (at end : ℕ) → AreWritable ts
    → AreAtMostCounts counts ts → CountsFit64 counts → length ts < 2 ^ 64
    → HasSlice bytes at (canonical_triples ts) end → IsTriplesAt counts (canonical_triples_parts ts at) bytes at
triples_stand ts counts bytes at end can within low few h =
    let valid = sequences_valid ts can counts within in
    let pairs = pairs_few ts can in
    let size = many_objects ts can in
    sequences_stand counts (sequences_of ts) bytes at end (record {
      valid = valid;
      some_pairs = (some_marks ts can).0;
      some_triples = (some_marks ts can).1;
      few_pairs = omega (arith, pairs.1, few);
      few_triples = omega (arith, size, few);
      predicates_fit = most_numbers ts can counts within low.0;
      objects_fit = most_objects ts can counts within low.1;
    }) h
