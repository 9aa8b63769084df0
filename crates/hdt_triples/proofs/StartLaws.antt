-- Searches that begin at a triple.
use Rattle.std.proofs.Common.{◌≡◌, ◌≢◌, inl, inr, ℕ, ◌+◌, ◌-◌, ◌*◌, ◌<◌, ◌≤◌, ◌==◌, zero, suc, List, [], ◌∷◌, ◌++◌}
use Rattle.std.proofs.Common.{length, drop, filter, map, slice_index, refl, ap, sym, ◌∙◌, arith, Bool, false, Some}
use Rattle.std.proofs.Math.Nat.{mul-le-mul_left}
use Rattle.std.proofs.lemmas.Bool.{cases_lt}
use Rattle.std.proofs.lemmas.List.{drop-map}
use Rattle.std.proofs.lemmas.List.Elements.{filter-append, All-filter, All-from_get_or}
use Rattle.std.proofs.lemmas.List.Sums.{length-filter, count_by-le-length}
use Rattle.std.proofs.lemmas.List.FromFn.{length-range_with_len, get_or-range_with_len}
use Rattle.std.specs.List.{All, range_with_len}
use Rattle.hdt_seq.specs.Width.{digits}
use Rattle.hdt_seq.specs.Laws.Width.{digits_mono}
use Rattle.hdt_seq.specs.Laws.RankSelect.{ones_before_mono}
use Rattle.hdt_triples.specs.declared.pattern.Pattern.{Pattern}
use Rattle.hdt_triples.specs.declared.triples.TriplePosition.{TriplePosition}
use Rattle.hdt_triples.specs.TripleSequences.{BitmapTriples, triple_at, triples_of, subject_at, pair_of}
use Rattle.hdt_triples.specs.Scanning.{IsTriplePosition, triples_from}
use Rattle.hdt_triples.specs.Patterns.{agrees, matches}
use Rattle.hdt_triples.specs.Bounds.{CostBound, IsWithinBudget, step_bound, list_search_cost, lookup_cost, object_cost}
use Rattle.hdt_triples.specs.Bounds.{of_object, of_predicate, subject_cost}
use Rattle.hdt_triples.specs.InvertedIndex.{positions_of, positions_from}
use Rattle.hdt_triples.specs.Inside.Runs.{IsRunOfTriples, IsObjectSearch}
use Rattle.hdt_triples.specs.Inside.PredicateCursors.{IsBeforePair, IsWithinPair}
use Rattle.hdt_triples.proofs.ObjectLaws.{object_left}
use Rattle.hdt_triples.proofs.PatternLaws.{other_object, other_predicate, other_subject}
use Rattle.hdt_triples.proofs.ScanLaws.{from_start, jumped, not_less}
use Rattle.hdt_triples.proofs.SubjectObjectLaws.{fewer_left}

-- ---- the rest of a range, and of a list of positions

dropped_range : (n a m : ℕ) → drop n (range_with_len a m) ≡ range_with_len (a + n) (m - n)
dropped_range zero a m = ap (range_with_len a) (let e : m ≡ m - 0 = omega arith in e)
    ∙ ap (λ b. range_with_len b (m - 0)) (let e : a ≡ a + 0 = omega arith in e)
dropped_range (suc n) a zero = ap (range_with_len (a + suc n)) (let e : 0 ≡ 0 - suc n = omega arith in e)
dropped_range (suc n) a (suc m) =
    dropped_range n (a + 1) m
    ∙ ap (range_with_len (a + 1 + n)) (let e : m - n ≡ suc m - suc n = omega arith in e)
    ∙ ap (λ b. range_with_len b (suc m - suc n)) (let e : a + 1 + n ≡ a + suc n = omega arith in e)

-- The triples from an index on are the list without those before it.
pub dropped : (f : BitmapTriples) (n : ℕ) → drop n (triples_of f) ≡ triples_from f n
unfolding triples_from triples_of
dropped f n =
    drop-map (triple_at f) n (range_with_len 0 (length f.array_z))
    ∙ ap (map (triple_at f)) (dropped_range n 0 (length f.array_z)
    ∙ ap (λ a. range_with_len a (length f.array_z - n)) (let e : 0 + n ≡ n = omega arith in e))

range_split : (n a m total : ℕ) → total ≡ n + m
    → range_with_len a total ≡ range_with_len a n ++ range_with_len (a + n) m
range_split zero a m total e = ap (range_with_len a) (let same : total ≡ m = omega (arith, e) in same)
    ∙ ap (λ b. range_with_len b m) (let same : a ≡ a + 0 = omega arith in same)
range_split (suc n) a m total e =
    ap (range_with_len a) (let same : total ≡ suc (n + m) = omega (arith, e) in same)
    ∙ ap (λ xs. a ∷ xs) (range_split n (a + 1) m (n + m) refl
    ∙ ap (λ b. range_with_len (a + 1) n ++ range_with_len b m) (let same : a + 1 + n ≡ a + suc n = omega arith in
    same))

-- What is left after the elements below a.
cut : (front back : List ℕ) (a next : ℕ) → All (λ i. i < a) front → All (λ i. a ≤ i) back
    → next ≤ length (front ++ back) → ((i : ℕ) → i < next → slice_index (front ++ back) i < a)
    → ((i : ℕ) → next ≤ i → i < length (front ++ back) → a ≤ slice_index (front ++ back) i)
    → drop next (front ++ back) ≡ back
cut [] back a zero low high h below above = refl
cut [] back a (suc n) low high h below above =
    absurd (omega (arith, below 0 (omega arith), high 0 0 (omega (arith, h))))
cut (x ∷ front) back a zero low high h below above =
    absurd (omega (arith, above 0 (omega arith) (omega arith), low 0 0 (omega arith)))
cut (x ∷ front) back a (suc n) low high h below above =
    cut front back a n (λ i d l. low (suc i) d (omega (arith, l))) high (omega (arith, h))
    (λ i l. below (suc i) (omega (arith, l))) (λ i l w. above (suc i) (omega (arith, l)) (omega (arith, w)))

below_in : (keep : ℕ → Bool) (n : ℕ) → All (λ i. i < n) (filter keep (range_with_len 0 n))
below_in keep n =
    All-filter keep (λ i. i < n) (range_with_len 0 n)
    (All-from_get_or (λ i. i < n) (range_with_len 0 n) 0 (λ i h. let small : i < n =
    omega (arith, h, length-range_with_len 0 n) in omega (arith, small, get_or-range_with_len 0 n i 0 small)))

above_in : (keep : ℕ → Bool) (a n : ℕ) → All (λ i. a ≤ i) (filter keep (range_with_len a n))
above_in keep a n =
    All-filter keep (λ i. a ≤ i) (range_with_len a n)
    (All-from_get_or (λ i. a ≤ i) (range_with_len a n) 0
    (λ i h. omega (arith, get_or-range_with_len a n i 0 (omega (arith, h, length-range_with_len a n)))))

-- The positions of a key from a on are the list from the first position that is not below a.
pub positions_left : (xs js : List ℕ) (k a next : ℕ) → js ≡ positions_of xs k → a ≤ length xs → next ≤ length js
    → ((i : ℕ) → i < next → slice_index js i < a) → ((i : ℕ) → next ≤ i → i < length js → a ≤ slice_index js i)
    → drop next js ≡ positions_from xs k a
positions_left xs js k a next is within h below above =
    let keep : ℕ → Bool = λ i. slice_index xs i == k in
    let split : js ≡ filter keep (range_with_len 0 a) ++ positions_from xs k a =
    is ∙ ap (filter keep) (range_split a 0 (length xs - a) (length xs) (omega (arith, within))
    ∙ ap (λ b. range_with_len 0 a ++ range_with_len b (length xs - a)) (let e : 0 + a ≡ a = omega arith in e))
    ∙ filter-append keep (range_with_len 0 a) (range_with_len a (length xs - a)) in
    ap (drop next) split
    ∙ cut (filter keep (range_with_len 0 a)) (positions_from xs k a) a next (below_in keep a)
    (above_in keep a (length xs - a)) (omega (arith, h, ap length split))
    (λ i l. omega (arith, below i l, ap (λ ys. slice_index ys i) split))
    (λ i l w. omega (arith, above i l (omega (arith, w, ap length split)), ap (λ ys. slice_index ys i) split))

-- A list of positions is no longer than the list.
pub list_few : (xs js : List ℕ) (k : ℕ) → js ≡ positions_of xs k → length js ≤ length xs
list_few xs js k is =
    let keep : ℕ → Bool = λ i. slice_index xs i == k in
    let range = range_with_len 0 (length xs) in
    omega (
      arith,
      ap length is,
      length-filter keep range,
      count_by-le-length keep range,
      length-range_with_len 0 (length xs),
    )

pub list_digits_few : (xs js : List ℕ) (k : ℕ) → js ≡ positions_of xs k → digits (length js) ≤ digits (length xs)
list_digits_few xs js k is = digits_mono (length js) (length xs) (list_few xs js k is)

-- ---- the bounds: a search of fewer triples is within those of a search of all

pub fewer : (p : Pattern) (f : BitmapTriples) (k : ℕ) → k ≤ length f.array_z
    → length (matches p (triples_from f k)) ≤ length (matches p (triples_of f))
fewer p f k h = omega (arith, fewer_left p f 0 k (omega arith) h, ap (λ ts. length (matches p ts)) (from_start f))

pub within_budget : (c : CostBound) (f : BitmapTriples) (at steps : ℕ) → at ≤ length f.array_z → steps ≡ 0
    → IsWithinBudget c f steps (triples_from f at)
unfolding step_bound
within_budget c f at steps h none = omega (arith, none, mul-le-mul_left c.each (fewer c.counted f at h))

pub object_budget : (f : BitmapTriples) (o at steps : ℕ) (js : List ℕ) → at ≤ length f.array_z
    → js ≡ positions_from f.array_z o at → steps ≡ 0 → IsWithinBudget (object_cost o) f steps (map (triple_at f) js)
unfolding step_bound object_cost
object_budget f o at steps js h is none =
    omega (arith, none, ap length (object_left (of_object o) f o at js refl is), fewer (of_object o) f at h)

pub subject_object_budget : (f : BitmapTriples) (s at steps : ℕ) → at ≤ length f.array_z → steps ≡ 0
    → IsWithinBudget (subject_cost f s) f (steps + 0) (triples_from f at)
subject_object_budget f s at steps h none = within_budget (subject_cost f s) f at (steps + 0) h (omega (arith, none))

pub subject_object_goes : (p : Pattern) (f : BitmapTriples) (o at steps : ℕ) → at ≤ length f.array_z → steps ≡ 0
    → steps + 4 * list_search_cost f o * (1 + length (matches p (triples_from f at)))
    ≤ lookup_cost f + 4 * list_search_cost f o * (1 + length (matches p (triples_of f))) + 3 * 0
subject_object_goes p f o at steps h none =
    omega (
      arith,
      none,
      mul-le-mul_left (4 * list_search_cost f o)
          (let more : 1 + length (matches p (triples_from f at)) ≤ 1 + length (matches p (triples_of f)) =
          omega (arith, fewer p f at h) in more),
    )

pub subject_object_short : (p : Pattern) (f : BitmapTriples) (o steps : ℕ) → steps ≡ 0
    → steps ≤ lookup_cost f + 4 * list_search_cost f o * (1 + length (matches p (triples_of f)))
subject_object_short p f o steps none = omega (arith, none)

-- ---- where a search begins

-- A subject.
pub subject_left : (p : Pattern) (s : ℕ) (f : BitmapTriples) (from at : ℕ) → p.s ≡ Some s → from ≤ at
    → at ≤ length f.array_z → ((i : ℕ) → from ≤ i → i < at → subject_at f (pair_of f i) ≢ s)
    → matches p (triples_from f at) ≡ matches p (triples_from f from)
subject_left p s f from at given l h before =
    sym (jumped p f from at l h (λ i a w. other_subject p s (triple_at f i) given (before i a w)))

pub still_reached : (f : BitmapTriples) (s : ℕ) (start at : TriplePosition) → IsTriplePosition f start
    → IsTriplePosition f at → start.at ≤ at.at → at.at < length f.array_z
    → (start.at < length f.array_z → s ≤ start.subject) → s ≤ at.subject
still_reached f s start at first is l h reached =
    omega (
      arith,
      reached (omega (arith, l, h)),
      first.subject_is,
      is.subject_is,
      ones_before_mono f.bitmap_y start.pair at.pair
          (omega (arith, first.pair_is, is.pair_is, ones_before_mono f.bitmap_z start.at at.at l)),
    )

-- A run of matches.
pub run_left : (f : BitmapTriples) (pattern : Pattern) (s p start end at from : ℕ)
    → IsRunOfTriples f pattern s p start end → ((i : ℕ) → i < start → agrees pattern (triple_at f i) ≡ false)
    → from ≤ length f.array_z → at ≤ end → (at < from → at ≡ end) → (from < at → at ≡ start)
    → matches pattern (triples_from f at) ≡ matches pattern (triples_from f from)
run_left f pattern s p start end at from r before h to up down =
    elim (cases_lt at from) [
      | inl less ↦ jumped pattern f at from (omega (arith, less)) h
          (λ i l w. r.over i (omega (arith, l, up less)) (omega (arith, w, h)))
      | inr more ↦ sym (jumped pattern f from at more (omega (arith, to, r.within))
          (λ i l w. before i (omega (arith, w, down (omega (arith, l, w))))))
    ]

pub run_within : (f : BitmapTriples) (pattern : Pattern) (s p start end at : ℕ) → IsRunOfTriples f pattern s p start end
    → start ≤ at → at ≤ end → IsRunOfTriples f pattern s p at end
run_within f pattern s p start end at r from to = record {
  ordered = to;
  within = r.within;
  all = λ i l w. r.all i (omega (arith, from, l)) w;
  subject_is = λ i l w. r.subject_is i (omega (arith, from, l)) w;
  predicate_is = λ i l w. r.predicate_is i (omega (arith, from, l)) w;
  over = r.over;
}

-- The end of a pair that has another predicate.
pub predicate_left : (f : BitmapTriples) (p from q end : ℕ) → q ≡ pair_of f from → slice_index f.array_y q ≢ p
    → end ≤ length f.array_z → ((i : ℕ) → i < end → pair_of f i ≤ q) → ((i : ℕ) → end ≤ i → q < pair_of f i)
    → matches (of_predicate p) (triples_from f end) ≡ matches (of_predicate p) (triples_from f from)
predicate_left f p from q end is ne h below above =
    sym (jumped (of_predicate p) f from end (not_less from end (λ l. omega (arith, is, above from (omega (arith, l)))))
    h
    (λ i l w. other_predicate (of_predicate p) p (triple_at f i) refl
    (λ same. ne (ap (slice_index f.array_y) (let e : q ≡ pair_of f i =
    omega (arith, is, ones_before_mono f.bitmap_z from i l, below i w) in e) ∙ same))))

-- Within a pair of the predicate.
pub within_pair : (f : BitmapTriples) (p q s at : ℕ) (rest : List ℕ) → at < length f.array_z → q ≡ pair_of f at
    → s ≡ subject_at f q → slice_index f.array_y q ≡ p → rest ≡ positions_from f.array_y p (q + 1)
    → IsWithinPair f p rest at s
within_pair f p q s at rest h pair subject predicate is = record {
  within = h;
  rest_is = is ∙ ap (λ n. positions_from f.array_y p (n + 1)) pair;
  predicate_is = ap (slice_index f.array_y) (sym pair) ∙ predicate;
  subject_is = subject ∙ ap (subject_at f) pair;
}

-- The end of a pair,
pub before_next_pair : (f : BitmapTriples) (p q end : ℕ) (rest : List ℕ) → end ≤ length f.array_z
    → pair_of f end ≡ q + 1 → ((i : ℕ) → i < end → pair_of f i ≤ q) → rest ≡ positions_from f.array_y p (q + 1)
    → IsBeforePair f p rest end
before_next_pair f p q end rest h next below is = record {
  within = h;
  rest_is = is ∙ ap (positions_from f.array_y p) (sym next);
  earlier = λ i l. omega (arith, next, below i l);
}

-- and its start.
pub before_pair : (f : BitmapTriples) (p q start : ℕ) (rest : List ℕ) → start < length f.array_z → pair_of f start ≡ q
    → ((i : ℕ) → i < start → pair_of f i < q) → rest ≡ positions_from f.array_y p q → IsBeforePair f p rest start
before_pair f p q start rest h begins earlier is = record {
  within = omega (arith, h);
  rest_is = is ∙ ap (positions_from f.array_y p) (sym begins);
  earlier = λ i l. omega (arith, begins, earlier i l);
}

-- No triple of the pair but `here` has the object.
others : (p : Pattern) (f : BitmapTriples) (q o here end i : ℕ) → p.o ≡ Some o → (s : IsObjectSearch f q o here end)
    → q ≤ pair_of f i → i < end → i ≢ here → agrees p (triple_at f i) ≡ false
others p f q o here end i given s l h ne =
    other_object p o (triple_at f i) given
    (s.other i (not_less s.start i (λ less. omega (arith, l, s.triple_range.before i less))) h ne)

-- The pair has the object at `from` or later: the search begins at the pair.
pub pair_left : (p : Pattern) (f : BitmapTriples) (q o here end start from : ℕ) → p.o ≡ Some o
    → IsObjectSearch f q o here end → q ≡ pair_of f from → pair_of f start ≡ q → ((i : ℕ) → i < start → pair_of f i < q)
    → from ≤ here → here < end → from ≤ length f.array_z
    → matches p (triples_from f start) ≡ matches p (triples_from f from)
pair_left p f q o here end start from given s is begins earlier l h w =
    jumped p f start from (not_less start from (λ less. omega (arith, is, earlier from less))) w
    (λ i a b. others p f q o here end i given s (omega (arith, begins, ones_before_mono f.bitmap_z start i a))
    (omega (arith, b, l, h)) (λ e. omega (arith, e, b, l)))

-- It doesn't: the search begins at the pair's end.
pub pair_passed : (p : Pattern) (f : BitmapTriples) (q o here end from : ℕ) → p.o ≡ Some o
    → IsObjectSearch f q o here end → q ≡ pair_of f from → (from ≤ here → end ≤ here)
    → matches p (triples_from f end) ≡ matches p (triples_from f from)
pair_passed p f q o here end from given s is none =
    sym (jumped p f from end (not_less from end
    (λ less. omega (arith, is, s.triple_range.ends, ones_before_mono f.bitmap_z end from (omega (arith, less)))))
    s.triple_range.within
    (λ i a b. others p f q o here end i given s (omega (arith, is, ones_before_mono f.bitmap_z from i a)) b
    (λ e. omega (arith, e, b, none (omega (arith, e, a))))))
