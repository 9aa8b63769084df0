-- The triples of a predicate, pair by pair.
use Rattle.std.proofs.Common.{◌≡◌, ℕ, ◌+◌, ◌*◌, ◌<◌, ◌≤◌, suc, List, [], ◌∷◌, length, refl, ap, sym, ◌∙◌, arith, Bool}
use Rattle.std.proofs.Common.{true, false, not, Some, slice_index, slice_get}
use Rattle.hdt_seq.specs.Width.{digits}
use Rattle.hdt_seq.specs.Directory.{groups}
use Rattle.hdt_seq.specs.RankSelect.{ones_before}
use Rattle.hdt_triples.specs.TripleSequences.{BitmapTriples, AreConsistentSequences, triple_at, subject_at, pair_of}
use Rattle.hdt_triples.specs.Scanning.{triples_from}
use Rattle.hdt_triples.specs.Patterns.{matches}
use Rattle.hdt_triples.specs.Bounds.{of_predicate, predicate_cost, IsWithinBudget, step_bound, lookup_cost}
use Rattle.hdt_triples.specs.InvertedIndex.{positions_of, positions_from}
use Rattle.hdt_triples.specs.Inside.PredicateCursors.{IsBeforePair, IsWithinPair, IsPredicateCursor}
use Rattle.hdt_triples.specs.declared.predicate_cursor.PredicateCursor.{PredicateCursor}
use Rattle.hdt_seq.specs.Laws.RankSelect.{ones_before_mono, ones_before_after_1_bit, ones_before_after_0_bit}
use Rattle.hdt_seq.specs.Laws.RankSelect.{ones_before_at_0}
use Rattle.hdt_triples.specs.Laws.Order.{pair_within}
use Rattle.hdt_triples.proofs.ScanLaws.{from_start, jumped, matches_taken, none_left, not_less, parts_are}
use Rattle.hdt_triples.proofs.PatternLaws.{other_predicate, own_predicate}
use Rattle.std.proofs.Math.Nat.{lt_of_not-le}
use Rattle.hdt_triples.proofs.InvertedIndexLaws.{IsFirstPosition, first_position, no_position, positions_from_start}

-- If no pair remains, no triple does.
pub predicate_over : (f : BitmapTriples) (p at : ℕ) (rest : List ℕ) → AreConsistentSequences f
    → IsBeforePair f p rest at → rest ≡ [] → matches (of_predicate p) (triples_from f at) ≡ []
predicate_over f p at rest marked s none =
    none_left (of_predicate p) f at s.within
    (λ i l w. other_predicate (of_predicate p) p (triple_at f i) refl
    (no_position f.array_y p (pair_of f at) (sym none
    ∙ s.rest_is) (pair_of f i) (ones_before_mono f.bitmap_z at i l) (pair_within f marked i w)))

-- Index `at` has the first triple of pair q.
pub record Begins (f : BitmapTriples) (q at : ℕ) : Type 0 where
  pub within : at < length f.array_z
  pub is : pair_of f at ≡ q
  pub earlier : (i : ℕ) → i < at → pair_of f i < q

-- The next pair of the predicate.
pub next_of : (f : BitmapTriples) (p at q : ℕ) (rest qs : List ℕ) → IsBeforePair f p rest at → rest ≡ q ∷ qs
    → IsFirstPosition f.array_y p (pair_of f at) q qs
next_of f p at q rest qs s split = first_position f.array_y p (pair_of f at) q qs (sym split ∙ s.rest_is)

pub predicate_entered : (f : BitmapTriples) (p q at start : ℕ) (rest qs : List ℕ) → AreConsistentSequences f
    → IsBeforePair f p rest at → rest ≡ q ∷ qs → Begins f q start
    → matches (of_predicate p) (triples_from f at) ≡ matches (of_predicate p) (triples_from f start)
predicate_entered f p q at start rest qs marked s split b =
    let first = next_of f p at q rest qs s split in
    let h : at ≤ start = not_less at start (λ l. omega (arith, s.earlier start l, b.is, first.from)) in
    jumped (of_predicate p) f at start h (omega (arith, b.within))
    (λ i l w. other_predicate (of_predicate p) p (triple_at f i) refl
    (first.before (pair_of f i) (ones_before_mono f.bitmap_z at i l) (b.earlier i w)))

pub inside_entered : (f : BitmapTriples) (p q at start subject : ℕ) (rest qs : List ℕ) → IsBeforePair f p rest at
    → rest ≡ q ∷ qs → Begins f q start → subject ≡ subject_at f q → IsWithinPair f p qs start subject
inside_entered f p q at start subject rest qs s split b subject_is =
    let first = next_of f p at q rest qs s split in
    record {
      within = b.within;
      rest_is = first.behind ∙ ap (λ n. positions_from f.array_y p (n + 1)) (sym b.is);
      predicate_is = ap (slice_index f.array_y) b.is ∙ first.key;
      subject_is = subject_is ∙ ap (subject_at f) (sym b.is);
    }

-- After a 0-bit the next triple is of the same pair.
pub inside_goes_on : (f : BitmapTriples) (p at subject : ℕ) (rest : List ℕ) → AreConsistentSequences f
    → IsWithinPair f p rest at subject → slice_get f.bitmap_z at ≡ Some false → IsWithinPair f p rest (at + 1) subject
inside_goes_on f p at subject rest marked s mark =
    let e : pair_of f (at + 1) ≡ pair_of f at = ones_before_after_0_bit f.bitmap_z at mark in
    record {
      within = lt_of_not-le (λ over.
          let last : at + 1 ≡ length f.bitmap_z = omega (arith, s.within, over, marked.triples) in
          omega (arith, e, pair_within f marked at s.within, marked.each_pair, ap (ones_before f.bitmap_z) last));
      rest_is = s.rest_is ∙ ap (λ n. positions_from f.array_y p (n + 1)) (sym e);
      predicate_is = ap (slice_index f.array_y) e ∙ s.predicate_is;
      subject_is = s.subject_is ∙ ap (subject_at f) (sym e);
    }

-- After a 1-bit the pair has ended.
pub inside_ends : (f : BitmapTriples) (p at subject : ℕ) (rest : List ℕ) → IsWithinPair f p rest at subject
    → slice_get f.bitmap_z at ≡ Some true → IsBeforePair f p rest (at + 1)
inside_ends f p at subject rest s mark =
    let e : pair_of f (at + 1) ≡ pair_of f at + 1 = ones_before_after_1_bit f.bitmap_z at mark in
    record {
      within = omega (arith, s.within);
      rest_is = s.rest_is ∙ ap (positions_from f.array_y p) (sym e);
      earlier = λ i h. omega (arith, e, ones_before_mono f.bitmap_z i at (omega (arith, h)));
    }

pub predicate_taken : (f : BitmapTriples) (p at subject : ℕ) (rest : List ℕ) → IsWithinPair f p rest at subject
    → matches (of_predicate p) (triples_from f at) ≡ (subject, p, slice_index f.array_z at)
    ∷ matches (of_predicate p) (triples_from f (at + 1))
predicate_taken f p at subject rest s =
    matches_taken (of_predicate p) f at s.within (own_predicate p (triple_at f at) s.predicate_is)
    ∙ ap (λ t. t ∷ matches (of_predicate p) (triples_from f (at + 1)))
    (parts_are f at subject p (sym s.subject_is) s.predicate_is)

pub between_first : (f : BitmapTriples) (p : ℕ) (rest : List ℕ) → rest ≡ positions_of f.array_y p
    → IsBeforePair f p rest 0
between_first f p rest is = record {
  within = omega arith;
  rest_is = is ∙ positions_from_start f.array_y p ∙ ap (positions_from f.array_y p) (sym (ones_before_at_0 f.bitmap_z));
  earlier = λ i h. absurd (omega (arith, h));
}

pub predicate_budget_first : (f : BitmapTriples) (p steps : ℕ) → steps ≤ 20
    → IsWithinBudget (predicate_cost f p) f steps (triples_from f 0)
unfolding step_bound predicate_cost lookup_cost
predicate_budget_first f p steps few =
    omega (
      arith,
      few,
      ap (λ ts. (digits (groups f.bitmap_y) + digits (groups f.bitmap_z) + 20) * length
          (matches (of_predicate p) ts)) (from_start f),
    )

pub predicate_budget_step : (f : BitmapTriples) (p at start subject steps after : ℕ) (rest : List ℕ)
    → matches (of_predicate p) (triples_from f at) ≡ matches (of_predicate p) (triples_from f start)
    → IsWithinPair f p rest start subject
    → after ≤ steps + (digits (groups f.bitmap_z) + 19)
    → IsWithinBudget (predicate_cost f p) f steps (triples_from f at)
    → IsWithinBudget (predicate_cost f p) f after (triples_from f (start + 1))
unfolding step_bound predicate_cost lookup_cost
predicate_budget_step f p at start subject steps after rest lookup_cost s few pays =
    let count : length (matches (of_predicate p) (triples_from f at))
    ≡ suc (length (matches (of_predicate p) (triples_from f (start + 1)))) =
    ap length (lookup_cost ∙ predicate_taken f p start subject rest s) in
    omega (arith, few, pays, ap (λ n. (digits (groups f.bitmap_y) + digits (groups f.bitmap_z) + 20) * n) count)

-- The position after a triple of the current pair.
pub advanced_cursor : (f : BitmapTriples) (p : ℕ) (s : PredicateCursor) (last : Bool) → AreConsistentSequences f
    → s.inside ≡ true → slice_get f.bitmap_z s.at ≡ Some last → IsPredicateCursor f p s
    → IsPredicateCursor f p (record { rest = s.rest; at = s.at + 1; subject = s.subject; inside = not last })
advanced_cursor f p s true marked inside is st = record {
  between = λ u. inside_ends f p s.at s.subject s.rest.now (st.inside inside) is;
  inside = λ u. let no : false ≡ true = u in absurd (cc);
}
advanced_cursor f p s false marked inside is st = record {
  between = λ u. let no : true ≡ false = u in absurd (cc);
  inside = λ u. inside_goes_on f p s.at s.subject s.rest.now marked (st.inside inside) is;
}
