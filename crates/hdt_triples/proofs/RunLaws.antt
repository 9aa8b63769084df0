-- Consecutive matches.
use Rattle.std.proofs.Common.{Option, ◌≡◌, ◌≢◌, ◌⊎◌, inl, inr, ℕ, ◌+◌, ◌*◌, ◌<◌, ◌≤◌, List, [], ◌∷◌, length, ap, sym}
use Rattle.std.proofs.Common.{◌∙◌, arith, Bool, true, false, Some, None, slice_index}
use Rattle.std.proofs.lemmas.Bool.{cases_eq, cases_lt}
use Rattle.hdt_seq.specs.Width.{digits}
use Rattle.hdt_seq.specs.Directory.{groups}
use Rattle.hdt_seq.specs.RankSelect.{ones_before}
use Rattle.hdt_triples.specs.declared.pattern.Pattern.{Pattern}
use Rattle.hdt_triples.specs.TripleSequences.{BitmapTriples, AreConsistentSequences, Triple, triple_at, triples_of}
use Rattle.hdt_triples.specs.TripleSequences.{subject_at, pair_of}
use Rattle.hdt_triples.specs.Scanning.{triples_from}
use Rattle.hdt_triples.proofs.AscentLaws.{Ascend}
use Rattle.hdt_triples.specs.Patterns.{agrees, admits, matches}
use Rattle.hdt_triples.specs.Bounds.{pair_cost, IsWithinBudget, step_bound, lookup_cost}
use Rattle.hdt_triples.specs.Inside.Runs.{IsPairOf, IsPairRange, IsRunOfTriples}
use Rattle.hdt_seq.specs.Laws.RankSelect.{ones_before_mono, ones_before_last}
use Rattle.hdt_triples.specs.Laws.Order.{pair_within}
use Rattle.hdt_triples.proofs.ScanLaws.{matches_taken, none_left, not_less, parts_are, skipped}
use Rattle.hdt_triples.proofs.PatternLaws.{admitted, other_object, other_predicate, other_subject, agrees_by_parts}
use Rattle.std.proofs.Math.Nat.{lt_of_not-le}

has_none : (f : BitmapTriples) (s q : ℕ) → AreConsistentSequences f
    → (s ≡ 0) ⊎ (ones_before f.bitmap_y (length f.bitmap_y) < s) → q < length f.array_y → subject_at f q ≡ s → q < 0
has_none f s q marked (inl zero_is) h e = absurd (omega (arith, zero_is, e))
has_none f s q marked (inr over) h e =
    absurd (omega (arith, over, e, ones_before_last f.bitmap_y q marked.last_pair (omega (arith, h, marked.pairs))))

-- A subject without pairs.
pub no_pairs : (f : BitmapTriples) (s : ℕ) → AreConsistentSequences f
    → (s ≡ 0) ⊎ (ones_before f.bitmap_y (length f.bitmap_y) < s) → IsPairRange f s 0 0
no_pairs f s marked out = record {
  ordered = omega arith;
  within = omega arith;
  inside = λ q l h. absurd (omega (arith, h));
  from = λ q h e. omega arith;
  to = λ q h e. has_none f s q marked out h e;
}

-- The pairs of subject s are those after 1-bit s - 1, up to 1-bit s.
pub pairs_between : (f : BitmapTriples) (s low high : ℕ) → AreConsistentSequences f → 0 < s → low ≤ high
    → high ≤ length f.bitmap_y → ones_before f.bitmap_y low + 1 ≡ s → ones_before f.bitmap_y high ≡ s
    → ((q : ℕ) → q < low → ones_before f.bitmap_y q + 1 < s) → ((q : ℕ) → q < high → ones_before f.bitmap_y q < s)
    → IsPairRange f s low high
pairs_between f s low high marked some ordered within at_low at_high below below_high = record {
  ordered = ordered;
  within = omega (arith, within, marked.pairs);
  inside = λ q l h. omega (arith, at_low, ones_before_mono f.bitmap_y low q l, below_high q h);
  from = λ q h e. not_less low q (λ l. omega (arith, e, below q l));
  to = λ q h e. lt_of_not-le (λ l. omega (arith, e, at_high, ones_before_mono f.bitmap_y high q l));
}

pub only_found : (f : BitmapTriples) (s p low high q r : ℕ) → Ascend f → IsPairRange f s low high → low ≤ q → q ≤ high
    → ((i : ℕ) → low ≤ i → i < q → slice_index f.array_y i < p)
    → ((i : ℕ) → q ≤ i → i < high → p ≤ slice_index f.array_y i)
    → IsPairOf f s p r → q ≡ r
only_found f s p low high q r up pairs l h below above is =
    omega (
      arith,
      not_less q r (λ w. omega (arith, is.2, below r (pairs.from r is.0 is.1) w)),
      not_less r q (λ w. omega (
        arith,
        is.2,
        above q (omega arith) (omega (arith, w, pairs.to r is.0 is.1)),
        up.predicates q r w is.0 (pairs.inside q l (omega (arith, w, pairs.to r is.0 is.1)) ∙ sym is.1),
      )),
    )

-- The predicates of a subject's pairs ascend.
pub pairs_ascend : (f : BitmapTriples) (s low high : ℕ) → Ascend f → IsPairRange f s low high → (i j : ℕ) → low ≤ i
    → i < j → j < high → slice_index f.array_y i < slice_index f.array_y j
pairs_ascend f s low high up pairs i j l m h =
    up.predicates i j m (omega (arith, h, pairs.within)) (pairs.inside i l (omega (arith, m, h))
    ∙ sym (pairs.inside j (omega (arith, l, m)) h))

-- If there is no such pair, no triple matches.
other_pair : (f : BitmapTriples) (pattern : Pattern) (s p i : ℕ) → pattern.s ≡ Some s → pattern.p ≡ Some p
    → (subject_at f (pair_of f i) ≡ s → slice_index f.array_y (pair_of f i) ≡ p → ⊥)
    → agrees pattern (triple_at f i) ≡ false
other_pair f pattern s p i given_s given_p none =
    elim (cases_eq (subject_at f (pair_of f i)) s) [
      | inl e ↦ other_predicate pattern p (triple_at f i) given_p (none e)
      | inr ne ↦ other_subject pattern s (triple_at f i) given_s ne
    ]

-- Without a match the range is empty.
empty_run : (f : BitmapTriples) (pattern : Pattern) (s p : ℕ)
    → ((i : ℕ) → i < length f.array_z → agrees pattern (triple_at f i) ≡ false) → IsRunOfTriples f pattern s p 0 0
empty_run f pattern s p none = record {
  ordered = omega arith;
  within = omega arith;
  all = λ i l h. absurd (omega (arith, h));
  subject_is = λ i l h. absurd (omega (arith, h));
  predicate_is = λ i l h. absurd (omega (arith, h));
  over = λ i l h. none i h;
}

pub no_run : (f : BitmapTriples) (pattern : Pattern) (s p : ℕ) → AreConsistentSequences f → pattern.s ≡ Some s
    → pattern.p ≡ Some p → ((q : ℕ) → IsPairOf f s p q → ⊥) → IsRunOfTriples f pattern s p 0 0
no_run f pattern s p marked given_s given_p none =
    empty_run f pattern s p (λ i h. other_pair f pattern s p i given_s given_p
    (λ e w. none (pair_of f i) (pair_within f marked i h, e, w)))

-- The pair of the subject and the predicate, and the range of its triples.
pub record IsPairRun (f : BitmapTriples) (s p q at end : ℕ) : Type 0 where
  pub pair : IsPairOf f s p q
  pub only : (r : ℕ) → IsPairOf f s p r → q ≡ r
  pub begins : pair_of f at ≡ q
  pub earlier : (i : ℕ) → i < at → pair_of f i < q
  pub low : at < length f.array_z
  pub within : end ≤ length f.array_z
  pub below : (i : ℕ) → i < end → pair_of f i ≤ q
  pub above : (i : ℕ) → end ≤ i → q < pair_of f i

pair_here : (f : BitmapTriples) (s p q at end i : ℕ) → IsPairRun f s p q at end → at ≤ i → i < end → pair_of f i ≡ q
pair_here f s p q at end i r l h = omega (arith, r.begins, ones_before_mono f.bitmap_z at i l, r.below i h)

pub outside : (f : BitmapTriples) (pattern : Pattern) (s p q at end i : ℕ) → AreConsistentSequences f
    → pattern.s ≡ Some s → pattern.p ≡ Some p → IsPairRun f s p q at end → i < length f.array_z → pair_of f i ≢ q
    → agrees pattern (triple_at f i) ≡ false
outside f pattern s p q at end i marked given_s given_p r h ne =
    other_pair f pattern s p i given_s given_p (λ e w. ne (sym (r.only (pair_of f i) (pair_within f marked i h, e, w))))

run_ordered : (f : BitmapTriples) (s p q at end : ℕ) → IsPairRun f s p q at end → at ≤ end
run_ordered f s p q at end r = not_less at end (λ l. omega (arith, r.earlier end l, r.above end (omega arith)))

agree_parts : (pattern : Pattern) (s p : ℕ) (t : Triple) → pattern.s ≡ Some s → pattern.p ≡ Some p → t.0 ≡ s → t.1 ≡ p
    → admits pattern.o t.2 ≡ true → agrees pattern t ≡ true
agree_parts pattern s p t given_s given_p first second third =
    agrees_by_parts pattern t true true true (admitted pattern.s s t.0 given_s first)
    (admitted pattern.p p t.1 given_p second) third

-- If no object is given, all triples of the pair match.
pub whole_run : (f : BitmapTriples) (pattern : Pattern) (s p q at end : ℕ) → AreConsistentSequences f
    → pattern.s ≡ Some s → pattern.p ≡ Some p → pattern.o ≡ None → IsPairRun f s p q at end
    → IsRunOfTriples f pattern s p at end
whole_run f pattern s p q at end marked given_s given_p free r =
    let subject : (i : ℕ) → at ≤ i → i < end → subject_at f (pair_of f i) ≡ s =
    λ i l h. ap (subject_at f) (pair_here f s p q at end i r l h) ∙ r.pair.1 in
    let predicate : (i : ℕ) → at ≤ i → i < end → slice_index f.array_y (pair_of f i) ≡ p =
    λ i l h. ap (slice_index f.array_y) (pair_here f s p q at end i r l h) ∙ r.pair.2 in
    record {
      ordered = run_ordered f s p q at end r;
      within = r.within;
      all = λ i l h. agree_parts pattern s p (triple_at f i) given_s given_p (subject i l h) (predicate i l h)
          (ap (λ a. admits a (slice_index f.array_z i)) free);
      subject_is = subject;
      predicate_is = predicate;
      over = λ i l h. outside f pattern s p q at end i marked given_s given_p r h (λ e. omega (arith, e, r.above i l));
    }

pub before_run : (f : BitmapTriples) (pattern : Pattern) (s p q at end i : ℕ) → AreConsistentSequences f
    → pattern.s ≡ Some s → pattern.p ≡ Some p → IsPairRun f s p q at end → i < at
    → agrees pattern (triple_at f i) ≡ false
before_run f pattern s p q at end i marked given_s given_p r h =
    outside f pattern s p q at end i marked given_s given_p r (omega (arith, h, r.low))
    (λ e. omega (arith, e, r.earlier i h))

-- The objects of the pair ascend.
pub objects_ascend : (f : BitmapTriples) (s p q at end : ℕ) → Ascend f → IsPairRun f s p q at end → (i j : ℕ) → at ≤ i
    → i < j → j < end → slice_index f.array_z i < slice_index f.array_z j
objects_ascend f s p q at end up r i j l m h =
    up.objects i j m (omega (arith, h, r.within)) (pair_here f s p q at end i r l (omega (arith, m, h))
    ∙ sym (pair_here f s p q at end j r (omega (arith, l, m)) h))

apart_by : (f : BitmapTriples) (pattern : Pattern) (s p o q at end i : ℕ) → AreConsistentSequences f
    → pattern.s ≡ Some s → pattern.p ≡ Some p → pattern.o ≡ Some o → IsPairRun f s p q at end → i < length f.array_z
    → (at ≤ i → i < end → slice_index f.array_z i ≢ o) → (i < at) ⊎ (at ≤ i) → (i < end) ⊎ (end ≤ i)
    → agrees pattern (triple_at f i) ≡ false
apart_by f pattern s p o q at end i marked given_s given_p given_o r h ne (inl l) w =
    before_run f pattern s p q at end i marked given_s given_p r l
apart_by f pattern s p o q at end i marked given_s given_p given_o r h ne (inr l) (inl w) =
    other_object pattern o (triple_at f i) given_o (ne l w)
apart_by f pattern s p o q at end i marked given_s given_p given_o r h ne (inr l) (inr w) =
    outside f pattern s p q at end i marked given_s given_p r h (λ e. omega (arith, e, r.above i w))

-- If triple j has the object, it is the only match.
pub one_before : (f : BitmapTriples) (pattern : Pattern) (s p o q at end j i : ℕ) → AreConsistentSequences f
    → pattern.s ≡ Some s → pattern.p ≡ Some p → pattern.o ≡ Some o → IsPairRun f s p q at end → j < end
    → ((i : ℕ) → at ≤ i → i < j → slice_index f.array_z i < o) → i < j → agrees pattern (triple_at f i) ≡ false
one_before f pattern s p o q at end j i marked given_s given_p given_o r h below l =
    apart_by f pattern s p o q at end i marked given_s given_p given_o r (omega (arith, h, l, r.within))
    (λ a w e. omega (arith, e, below i a l)) (cases_lt i at) (cases_lt i end)

pub one_run : (f : BitmapTriples) (pattern : Pattern) (s p o q at end j : ℕ) → AreConsistentSequences f → Ascend f
    → pattern.s ≡ Some s → pattern.p ≡ Some p → pattern.o ≡ Some o → IsPairRun f s p q at end → at ≤ j → j < end
    → slice_index f.array_z j ≡ o → IsRunOfTriples f pattern s p j (j + 1)
one_run f pattern s p o q at end j marked up given_s given_p given_o r l h is =
    let here : (i : ℕ) → j ≤ i → i < j + 1 → i ≡ j = λ i a w. omega (arith, a, w) in
    let pair : pair_of f j ≡ q = pair_here f s p q at end j r l h in
    let subject : (i : ℕ) → j ≤ i → i < j + 1 → subject_at f (pair_of f i) ≡ s =
    λ i a w. ap (λ n. subject_at f (pair_of f n)) (here i a w) ∙ ap (subject_at f) pair ∙ r.pair.1 in
    let predicate : (i : ℕ) → j ≤ i → i < j + 1 → slice_index f.array_y (pair_of f i) ≡ p =
    λ i a w. ap (λ n. slice_index f.array_y (pair_of f n)) (here i a w) ∙ ap (slice_index f.array_y) pair
    ∙ r.pair.2 in
    record {
      ordered = omega arith;
      within = omega (arith, h, r.within);
      all = λ i a w. agree_parts pattern s p (triple_at f i) given_s given_p (subject i a w) (predicate i a w)
          (admitted pattern.o o (slice_index f.array_z i) given_o (ap (slice_index f.array_z) (here i a w) ∙ is));
      subject_is = subject;
      predicate_is = predicate;
      over = λ i a w. apart_by f pattern s p o q at end i marked given_s given_p given_o r w
          (λ b c e. omega (arith, e, is, objects_ascend f s p q at end up r j i l (omega (arith, a)) c)) (cases_lt i at)
          (cases_lt i end);
    }

-- If no triple of the pair has the object, there is no match.
pub none_run : (f : BitmapTriples) (pattern : Pattern) (s p o q at end : ℕ) → AreConsistentSequences f
    → pattern.s ≡ Some s → pattern.p ≡ Some p → pattern.o ≡ Some o → IsPairRun f s p q at end
    → ((i : ℕ) → at ≤ i → i < end → slice_index f.array_z i ≢ o) → IsRunOfTriples f pattern s p 0 0
none_run f pattern s p o q at end marked given_s given_p given_o r none =
    empty_run f pattern s p (λ i h. apart_by f pattern s p o q at end i marked given_s given_p given_o r h (none i)
    (cases_lt i at) (cases_lt i end))

-- ---- the iterator
pub run_over : (f : BitmapTriples) (pattern : Pattern) (s p at end : ℕ) → IsRunOfTriples f pattern s p at end → end ≤ at
    → matches pattern (triples_from f at) ≡ []
run_over f pattern s p at end r h =
    none_left pattern f at (omega (arith, r.ordered, r.within)) (λ i l w. r.over i (omega (arith, h, l)) w)

pub run_taken : (f : BitmapTriples) (pattern : Pattern) (s p at end : ℕ) → IsRunOfTriples f pattern s p at end
    → at < end
    → matches pattern (triples_from f at) ≡ (s, p, slice_index f.array_z at) ∷ matches pattern (triples_from f (at + 1))
run_taken f pattern s p at end r h =
    matches_taken pattern f at (omega (arith, h, r.within)) (r.all at (omega arith) h)
    ∙ ap (λ t. t ∷ matches pattern (triples_from f (at + 1)))
    (parts_are f at s p (r.subject_is at (omega arith) h) (r.predicate_is at (omega arith) h))

pub run_on : (f : BitmapTriples) (pattern : Pattern) (s p at end : ℕ) → IsRunOfTriples f pattern s p at end → at < end
    → IsRunOfTriples f pattern s p (at + 1) end
run_on f pattern s p at end r h = record {
  ordered = omega (arith, h);
  within = r.within;
  all = λ i l w. r.all i (omega (arith, l)) w;
  subject_is = λ i l w. r.subject_is i (omega (arith, l)) w;
  predicate_is = λ i l w. r.predicate_is i (omega (arith, l)) w;
  over = r.over;
}

pub run_items : (f : BitmapTriples) (pattern : Pattern) (s p at end : ℕ) → IsRunOfTriples f pattern s p at end
    → ((i : ℕ) → i < at → agrees pattern (triple_at f i) ≡ false)
    → matches pattern (triples_from f at) ≡ matches pattern (triples_of f)
run_items f pattern s p at end r none = sym (skipped pattern f at (omega (arith, r.ordered, r.within)) none)

pub run_budget_first : (f : BitmapTriples) (pattern : Pattern) (s p at end steps : ℕ)
    → IsRunOfTriples f pattern s p at end → ((i : ℕ) → i < at → agrees pattern (triple_at f i) ≡ false)
    → steps ≤ 2 * digits (groups f.bitmap_y) + 2 * digits (groups f.bitmap_z) + 35 + digits (length f.array_y) + digits
    (length f.array_z) → IsWithinBudget (pair_cost f pattern) f steps (triples_from f at)
unfolding step_bound pair_cost lookup_cost
run_budget_first f pattern s p at end steps r none few =
    omega (arith, few, ap length (run_items f pattern s p at end r none))

pub run_budget_step : (f : BitmapTriples) (pattern : Pattern) (s p at end steps after : ℕ)
    → IsRunOfTriples f pattern s p at end → at < end → after ≤ steps + 1
    → IsWithinBudget (pair_cost f pattern) f steps (triples_from f at)
    → IsWithinBudget (pair_cost f pattern) f after (triples_from f (at + 1))
unfolding step_bound pair_cost lookup_cost
run_budget_step f pattern s p at end steps after r h few pays =
    omega (arith, few, pays, ap length (run_taken f pattern s p at end r h))

pub pair_run : (f : BitmapTriples) (s p q at end : ℕ) → IsPairOf f s p q
    → ((r : ℕ) → IsPairOf f s p r → ◌≡◌ {A = Option ℕ} (Some q) (Some r)) → at < length f.array_z → pair_of f at ≡ q
    → ((i : ℕ) → i < at → pair_of f i < q)
    → end ≤ length f.array_z → ((i : ℕ) → i < end → pair_of f i ≤ q) → ((i : ℕ) → end ≤ i → q < pair_of f i)
    → IsPairRun f s p q at end
pair_run f s p q at end pair only low begins earlier within below above = record {
  pair = pair;
  only = λ r h. let e = only r h in cc;
  begins = begins;
  earlier = earlier;
  low = low;
  within = within;
  below = below;
  above = above;
}

-- An index with fewer 1-bits before it is lower.
pub ordered : (bits : List Bool) (low high s : ℕ) → ones_before bits low + 1 ≡ s → ones_before bits high ≡ s
    → low ≤ high
ordered bits low high s at_low at_high =
    not_less low high (λ l. omega (arith, at_low, at_high, ones_before_mono bits high low (omega (arith, l))))

-- No number of the range is o.
pub not_there : (f : BitmapTriples) (at end j o : ℕ) → ((i : ℕ) → at ≤ i → i < j → slice_index f.array_z i < o)
    → ((i : ℕ) → j ≤ i → i < end → o ≤ slice_index f.array_z i)
    → ((i k : ℕ) → at ≤ i → i < k → k < end → slice_index f.array_z i < slice_index f.array_z k) → at ≤ j
    → (j < end → slice_index f.array_z j ≢ o) → (i : ℕ) → at ≤ i → i < end → slice_index f.array_z i ≢ o
not_there f at end j o below above up l ne i a w = λ same.
    let from = not_less j i (λ h. omega (arith, same, below i a h)) in
    let to = not_less i j (λ h. omega (arith, same, above j (omega arith) (omega (arith, h, w)), up j i l h w)) in
    let here : j ≡ i = omega (arith, from, to) in
    ne (omega (arith, here, w)) (ap (slice_index f.array_z) here ∙ same)
