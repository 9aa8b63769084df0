-- The triples of four valid sequences ascend and are in range.
use Rattle.std.proofs.Common.{◌≡◌, ◌⊎◌, ℕ, ◌+◌, ◌<◌, Bool, true, false, List, length, get_or, slice_get, slice_index}
use Rattle.std.proofs.Common.{Some, inl, inr, sym, ap, subst, arith}
use Rattle.std.proofs.lemmas.Option.{slice_get-get_or}
use Rattle.hdt_seq.specs.RankSelect.{ones_before}
use Rattle.hdt_seq.specs.Laws.RankSelect.{ones_before_after_1_bit, ones_before_after_0_bit, ones_before_last}
use Rattle.hdt_triples.specs.TripleSequences.{BitmapTriples, subject_at, pair_of, triple_at, triples_of}
use Rattle.hdt_triples.specs.TripleSequences.{AreConsistentSequences, AreAscendingGroups, AreValidSequences}
use Rattle.hdt_triples.specs.declared.pattern.Counts.{Counts}
use Rattle.hdt_triples.specs.Laws.TripleSequences.{length-triples, triple_is}
use Rattle.hdt_triples.specs.Order.{TripleLess, AreAscending, IsInRange, AreInRange}

step_by : (marks : List Bool) (i : ℕ) (b : Bool) → slice_get marks i ≡ Some b
    → (ones_before marks (i + 1) ≡ ones_before marks i + 1) ⊎ (ones_before marks (i + 1) ≡ ones_before marks i)
step_by marks i true h = inl (ones_before_after_1_bit marks i h)
step_by marks i false h = inr (ones_before_after_0_bit marks i h)

-- The next entry begins a group or continues one.
step : (marks : List Bool) (i : ℕ) → i < length marks → (ones_before marks (i + 1) ≡ ones_before marks i + 1)
    ⊎ (ones_before marks (i + 1) ≡ ones_before marks i)
step marks i lt = step_by marks i (get_or marks i false) (slice_get-get_or marks i false lt)

-- The pair of each triple exists.
pub pair_within : (f : BitmapTriples) → AreConsistentSequences f → (j : ℕ) → j < length f.array_z
    → pair_of f j < length f.array_y
pair_within f m j lt = omega (
  arith,
  ones_before_last f.bitmap_z j m.last_triple (omega (arith, m.triples, lt)),
  m.each_pair,
)

abbrev PairLess : BitmapTriples → ℕ → ℕ → Type 0
PairLess f q p = (subject_at f q < subject_at f p)
    ⊎ ((subject_at f q ≡ subject_at f p) × (slice_index f.array_y q < slice_index f.array_y p))

pair_less : (f : BitmapTriples) (count q p : ℕ) → length f.bitmap_y ≡ length f.array_y
    → AreAscendingGroups f.bitmap_y f.array_y count → p ≡ q + 1 → p < length f.array_y → PairLess f q p
pair_less f count q p same h next lt =
    let below : q + 1 < length f.array_y = omega (arith, next, lt) in
    subst (λ (k : ℕ). PairLess f q k) (sym next) (by (step f.bitmap_y q (omega (arith, same, below))) below)
  where
    by : (ones_before f.bitmap_y (q + 1) ≡ ones_before f.bitmap_y q + 1)
        ⊎ (ones_before f.bitmap_y (q + 1) ≡ ones_before f.bitmap_y q) → q + 1 < length f.array_y → PairLess f q (q + 1)
    by (inl up) below = inl (omega (arith, up))
    by (inr on) below = inr (omega (arith, on), h.ascend q below (sym on))

triple_less : (f : BitmapTriples) (ps os j : ℕ) → AreConsistentSequences f → AreAscendingGroups f.bitmap_y f.array_y ps
    → AreAscendingGroups f.bitmap_z f.array_z os → j + 1 < length f.array_z
    → TripleLess (triple_at f j) (triple_at f (j + 1))
triple_less f ps os j m array_y array_z lt = by (step f.bitmap_z j (omega (arith, m.triples, lt)))
  where
    pair : PairLess f (pair_of f j) (pair_of f (j + 1)) → TripleLess (triple_at f j) (triple_at f (j + 1))
    pair (inl l) = inl l
    pair (inr l) = inr (l.0, inl l.1)

    by : (ones_before f.bitmap_z (j + 1) ≡ ones_before f.bitmap_z j + 1)
        ⊎ (ones_before f.bitmap_z (j + 1) ≡ ones_before f.bitmap_z j) → TripleLess (triple_at f j) (triple_at f (j + 1))
    by (inl up) = pair (pair_less f ps (pair_of f j) (pair_of f (j + 1)) m.pairs array_y up
        (pair_within f m (j + 1) lt))
    by (inr on) = inr (
      ap (subject_at f) (sym on),
      inr (ap (slice_index f.array_y) (sym on), array_z.ascend j lt (sym on)),
    )

pub triples_ascend : (counts : Counts) (f : BitmapTriples) → AreValidSequences counts f → AreAscending (triples_of f)
triples_ascend counts f h = λ i lt.
    let below : i + 1 < length f.array_z = omega (arith, length-triples f, lt) in
    rw (
      triple_is f i (omega (arith, below)),
      triple_is f (i + 1) below,
    )
    (triple_less f counts.predicates counts.objects i h.marked h.predicates h.objects below)

pub triples_in_range : (counts : Counts) (f : BitmapTriples) → AreValidSequences counts f
    → AreInRange counts (triples_of f)
triples_in_range counts f h = λ i lt.
    let below : i < length f.array_z = omega (arith, length-triples f, lt) in
    let within = pair_within f h.marked i below in
    let made : IsInRange counts (triple_at f i) = (
      (omega arith, h.subjects (pair_of f i) within),
      (h.predicates.from (pair_of f i) within, h.predicates.to (pair_of f i) within),
      (h.objects.from i below, h.objects.to i below),
    ) in
    subst (IsInRange counts) (sym (triple_is f i below)) made
