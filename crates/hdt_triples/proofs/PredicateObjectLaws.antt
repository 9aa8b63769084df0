-- The search for an object in each pair of a predicate.
use Rattle.std.proofs.Common.{◌≡◌, ◌≢◌, ◌⊎◌, inl, inr, ℕ, ◌+◌, ◌*◌, ◌<◌, ◌≤◌, List, [], ◌∷◌, length, slice_index, ap}
use Rattle.std.proofs.Common.{sym, ◌∙◌, arith, true, false, Some, None}
use Rattle.std.proofs.lemmas.Bool.{cases_lt}
use Rattle.hdt_seq.specs.Directory.{groups}
use Rattle.hdt_seq.specs.Width.{digits}
use Rattle.hdt_seq.specs.Laws.RankSelect.{ones_before_mono}
use Rattle.hdt_triples.specs.declared.matches.Matches.{Matches}
use Rattle.hdt_triples.specs.declared.matches.Matches.TheVariants.{Empty, Scan, Subject, SubjectObject, Pair, Predicate}
use Rattle.hdt_triples.specs.declared.matches.Matches.TheVariants.{PredicateObject, Object}
use Rattle.hdt_triples.specs.declared.pattern.Pattern.{Pattern}
use Rattle.hdt_triples.specs.Bounds.{lookup_cost, pair_search_cost}
use Rattle.hdt_triples.specs.TripleSequences.{BitmapTriples, AreConsistentSequences, Triple, pair_of, subject_at}
use Rattle.hdt_triples.specs.TripleSequences.{triple_at}
use Rattle.hdt_triples.specs.Inside.Runs.{IsTripleRange, IsObjectSearch}
use Rattle.hdt_triples.specs.Inside.PredicateCursors.{IsBeforePair}
use Rattle.hdt_triples.specs.Remaining.{step_limit, shorter_list_step_limit, steps_taken}
use Rattle.hdt_triples.specs.Patterns.{admits, agrees, matches}
use Rattle.hdt_triples.specs.Scanning.{triples_from}
use Rattle.hdt_triples.proofs.PatternLaws.{admitted, other_object, other_predicate, agrees_by_parts}
use Rattle.hdt_triples.proofs.AscentLaws.{Ascend}
use Rattle.hdt_triples.specs.Laws.Order.{pair_within}
use Rattle.hdt_triples.proofs.InvertedIndexLaws.{no_position}
use Rattle.hdt_triples.proofs.PredicateLaws.{next_of}
use Rattle.hdt_triples.proofs.ScanLaws.{jumped, matches_taken, none_left, not_less, parts_are}

-- ---- one pair

pair_here : (f : BitmapTriples) (q start end i : ℕ) → IsTripleRange f q q start end → start ≤ i → i < end
    → pair_of f i ≡ q
pair_here f q start end i e l h = omega (arith, e.begins, ones_before_mono f.bitmap_z start i l, e.to i h)

-- The objects of a pair ascend.
pub edges_ascend : (f : BitmapTriples) (q start end : ℕ) → Ascend f → IsTripleRange f q q start end → (i j : ℕ)
    → start ≤ i → i < j → j < end → slice_index f.array_z i < slice_index f.array_z j
edges_ascend f q start end up e i j l m h =
    up.objects i j m (omega (arith, h, e.within)) (pair_here f q start end i e l (omega (arith, m, h))
    ∙ sym (pair_here f q start end j e (omega (arith, l, m)) h))

other_by : (f : BitmapTriples) (q start end o here i : ℕ) → Ascend f → IsTripleRange f q q start end → start ≤ here
    → here < end → slice_index f.array_z here ≡ o → start ≤ i → i < end → i ≢ here
    → (i < here) ⊎ (here ≤ i) → slice_index f.array_z i ≢ o
other_by f q start end o here i up e from to is l h ne (inl less) same =
    omega (arith, is, same, edges_ascend f q start end up e i here l less to)
other_by f q start end o here i up e from to is l h ne (inr more) same =
    omega (
      arith,
      is,
      same,
      edges_ascend f q start end up e here i from
          (omega (arith, not_less (here + 1) i (λ less. ne (omega (arith, more, less))))) h,
    )

pub object_found : (f : BitmapTriples) (q start end o here : ℕ) → Ascend f → IsTripleRange f q q start end
    → start ≤ here → here < end → slice_index f.array_z here ≡ o → IsObjectSearch f q o here end
object_found f q start end o here up e from to is = record {
  start = start;
  triple_range = e;
  from = from;
  to = omega (arith, to);
  is = λ h. is;
  other = λ i l h ne. other_by f q start end o here i up e from to is l h ne (cases_lt i here);
}

pub object_missed : (f : BitmapTriples) (q start end o : ℕ) → IsTripleRange f q q start end
    → ((i : ℕ) → start ≤ i → i < end → slice_index f.array_z i ≢ o) → IsObjectSearch f q o end end
object_missed f q start end o e none = record {
  start = start;
  triple_range = e;
  from = omega (arith, e.some);
  to = omega arith;
  is = λ h. absurd (omega (arith, h));
  other = λ i l h ne. none i l h;
}

-- ---- the next pair of a predicate

passed_by : (p : Pattern) (f : BitmapTriples) (r o at q end here i : ℕ) (rest qs : List ℕ) → p.p ≡ Some r → p.o ≡ Some o
    → IsBeforePair f r rest at → rest ≡ q ∷ qs → (s : IsObjectSearch f q o here end)
    → at ≤ i → i < end → i ≢ here → (i < s.start) ⊎ (s.start ≤ i) → agrees p (triple_at f i) ≡ false
passed_by p f r o at q end here i rest qs given_p given_o between split s l h ne (inl less) =
    other_predicate p r (triple_at f i) given_p
    ((next_of f r at q rest qs between split).before (pair_of f i) (ones_before_mono f.bitmap_z at i l)
    (s.triple_range.before i less))
passed_by p f r o at q end here i rest qs given_p given_o between split s l h ne (inr more) =
    other_object p o (triple_at f i) given_o (s.other i more h ne)

at_before : (f : BitmapTriples) (r o at q here end : ℕ) (rest qs : List ℕ) → IsBeforePair f r rest at → rest ≡ q ∷ qs
    → (s : IsObjectSearch f q o here end) → at ≤ s.start
at_before f r o at q here end rest qs between split s =
    not_less at s.start (λ l. omega (
      arith,
      between.earlier s.start l,
      s.triple_range.begins,
      (next_of f r at q rest qs between split).from,
    ))

-- If the pair has the object, that triple is the next match.
pub next_found : (p : Pattern) (f : BitmapTriples) (r o at q here end : ℕ) (rest qs : List ℕ) → p.s ≡ None
    → p.p ≡ Some r → p.o ≡ Some o → IsBeforePair f r rest at → rest ≡ q ∷ qs → IsObjectSearch f q o here end
    → here < end
    → matches p (triples_from f at) ≡ (subject_at f q, r, o) ∷ matches p (triples_from f end)
next_found p f r o at q here end rest qs free given_p given_o between split s h =
    let first = next_of f r at q rest qs between split in
    let pair = pair_here f q s.start end here s.triple_range s.from h in
    let predicate : slice_index f.array_y (pair_of f here) ≡ r = ap (slice_index f.array_y) pair ∙ first.key in
    let object : slice_index f.array_z here ≡ o = s.is h in
    let own = agrees_by_parts p (triple_at f here) true true true (ap (λ a. admits a (triple_at f here).0) free)
    (admitted p.p r (triple_at f here).1 given_p predicate) (admitted p.o o (triple_at f here).2 given_o object) in
    let is : triple_at f here ≡ (subject_at f q, r, o) =
    parts_are f here (subject_at f q) r (ap (subject_at f) pair) predicate
    ∙ ap (λ z. let t : Triple = (subject_at f q, r, z) in t) object in
    let start = at_before f r o at q here end rest qs between split s in
    jumped p f at here (omega (arith, start, s.from)) (omega (arith, h, s.triple_range.within))
    (λ i l w. passed_by p f r o at q end here i rest qs given_p given_o between split s l (omega (arith, w, h))
    (λ e. omega (arith, e, w)) (cases_lt i s.start))
    ∙ matches_taken p f here (omega (arith, h, s.triple_range.within)) own
    ∙ ap (λ t. t ∷ matches p (triples_from f (here + 1))) is
    ∙ ap (λ ts. (subject_at f q, r, o) ∷ ts) (jumped p f (here + 1) end (omega (arith, h)) s.triple_range.within
    (λ i l w. passed_by p f r o at q end here i rest qs given_p given_o between split s
    (omega (arith, l, start, s.from)) w (λ e. omega (arith, e, l)) (cases_lt i s.start)))

-- If it doesn't, no triple of the pair matches.
pub next_missed : (p : Pattern) (f : BitmapTriples) (r o at q here end : ℕ) (rest qs : List ℕ) → p.p ≡ Some r
    → p.o ≡ Some o → IsBeforePair f r rest at → rest ≡ q ∷ qs → IsObjectSearch f q o here end → end ≤ here
    → matches p (triples_from f at) ≡ matches p (triples_from f end)
next_missed p f r o at q here end rest qs given_p given_o between split s h =
    let start = at_before f r o at q here end rest qs between split s in
    jumped p f at end (omega (arith, start, s.from, s.to)) s.triple_range.within
    (λ i l w. passed_by p f r o at q end here i rest qs given_p given_o between split s l w
    (λ e. omega (arith, e, w, h)) (cases_lt i s.start))

-- If no pair remains, no match does.
pub over : (p : Pattern) (f : BitmapTriples) (r at : ℕ) (rest : List ℕ) → AreConsistentSequences f → p.p ≡ Some r
    → IsBeforePair f r rest at → rest ≡ [] → matches p (triples_from f at) ≡ []
over p f r at rest marked given between none =
    none_left p f at between.within
    (λ i l w. other_predicate p r (triple_at f i) given
    (no_position f.array_y r (pair_of f at) (sym none
    ∙ between.rest_is) (pair_of f i) (ones_before_mono f.bitmap_z at i l) (pair_within f marked i w)))

-- ---- the steps

pub look_is : (f : BitmapTriples) → 2 * digits (groups f.bitmap_z) + 27 + digits (length f.array_z) ≤ pair_search_cost f
unfolding pair_search_cost lookup_cost
look_is f = omega arith

-- The steps of one pair are within the budget.
pub look_paid : (f : BitmapTriples) (q steps after most : ℕ) (rest qs : List ℕ) → rest ≡ q ∷ qs
    → after ≤ steps + (2 * digits (groups f.bitmap_z) + 27 + digits (length f.array_z))
    → steps + pair_search_cost f * length rest ≤ most → after + pair_search_cost f * length qs ≤ most
look_paid f q steps after most rest qs split few pays =
    let count : length rest ≡ length qs + 1 = omega (arith, ap length split) in
    omega (arith, few, look_is f, pays, ap (λ k. pair_search_cost f * k) count)

-- The bound for the shorter list is at most the other one.
pub shorter : (m : Matches) → shorter_list_step_limit m ≤ step_limit m
unfolding shorter_list_step_limit step_limit
shorter Empty = omega arith
shorter (Scan m) = omega arith
shorter (Subject m) = omega arith
shorter (SubjectObject m) = omega arith
shorter (Pair m) = omega arith
shorter (Predicate m) = omega arith
shorter (PredicateObject m) = m.few
shorter (Object m) = omega arith

pub fewer : (m : Matches) → steps_taken m ≤ step_limit m → steps_taken m ≤ shorter_list_step_limit m
unfolding shorter_list_step_limit step_limit steps_taken
fewer Empty few = few
fewer (Scan m) few = few
fewer (Subject m) few = few
fewer (SubjectObject m) few = omega (arith, m.short, few)
fewer (Pair m) few = few
fewer (Predicate m) few = few
fewer (PredicateObject m) few = omega (arith, m.short)
fewer (Object m) few = few
