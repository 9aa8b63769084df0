-- Counting matches.
use Rattle.std.proofs.Common.{◌≡◌, ℕ, ◌+◌, ◌-◌, ◌*◌, ◌<◌, ◌≤◌, ◌==◌, zero, suc, List, [], ◌∷◌, length, map, min, drop}
use Rattle.std.proofs.Common.{slice_get, ap, sym, ◌∙◌, arith, Bool, true, false, Some, None, slice_index, eq-eqb, refl}
use Rattle.std.proofs.Math.Nat.{mul-le-mul_left}
use Rattle.std.specs.Int.{from_bool}
use Rattle.std.proofs.lemmas.List.{length-map}
use Rattle.std.specs.List.{All}
use Rattle.std.proofs.Math.Bool.{and-true}
use Rattle.hdt_seq.specs.Directory.{groups}
use Rattle.hdt_seq.specs.Width.{digits}
use Rattle.hdt_seq.specs.Laws.RankSelect.{ones_before_after_1_bit, ones_before_mono}
use Rattle.hdt_triples.specs.declared.pattern.Pattern.{Pattern}
use Rattle.hdt_triples.specs.TripleSequences.{BitmapTriples, AreConsistentSequences, Triple, triple_at, triples_of}
use Rattle.hdt_triples.specs.TripleSequences.{subject_at, pair_of}
use Rattle.hdt_triples.specs.Patterns.{agrees, admits, matches}
use Rattle.hdt_triples.specs.Scanning.{triples_from}
use Rattle.hdt_triples.specs.Bounds.{of_subject, of_predicate, of_object}
use Rattle.hdt_triples.specs.InvertedIndex.{positions_of, positions_from, IsPositionOf}
use Rattle.hdt_triples.specs.Inside.Runs.{IsMatchRange, IsTripleRange, IsRunOfTriples, IsPairRange}
use Rattle.hdt_triples.specs.Inside.PredicateCursors.{IsBeforePair}
use Rattle.hdt_triples.specs.Laws.Order.{pair_within}
use Rattle.hdt_triples.proofs.PositionListLaws.{held_at, matches_mapped, part_count}
use Rattle.hdt_triples.proofs.ScanLaws.{matches_taken, matches_passed, none_left, not_less, skipped}
use Rattle.hdt_triples.proofs.PatternLaws.{admitted, has_subject, other_subject, own_predicate, own_subject}
use Rattle.hdt_triples.proofs.PatternLaws.{agrees_by_parts}
use Rattle.hdt_triples.proofs.PredicateLaws.{Begins, predicate_entered, next_of}
use Rattle.hdt_triples.proofs.ObjectLaws.{among_first, object_law, object_step, object_triples}

-- One triple is counted or not.
pub count_on : (p : Pattern) (f : BitmapTriples) (j : ℕ) (b : Bool) (one : ℕ) → j < length f.array_z
    → agrees p (triple_at f j) ≡ b → one ≡ from_bool b
    → length (matches p (triples_from f j)) ≡ one + length (matches p (triples_from f (j + 1)))
count_on p f j true one h is more = omega (arith, more, ap length (matches_taken p f j h is))
count_on p f j false one h is none = omega (arith, none, ap length (matches_passed p f j h is))

-- All triples of a run are counted.
run_by : (n : ℕ) (p : Pattern) (f : BitmapTriples) (at end : ℕ) → at + n ≡ end → end ≤ length f.array_z
    → ((i : ℕ) → at ≤ i → i < end → agrees p (triple_at f i) ≡ true)
    → length (matches p (triples_from f at)) + at ≡ end + length (matches p (triples_from f end))
run_by zero p f at end e within all =
    let same : at ≡ end = omega (arith, e) in
    omega (arith, e, ap (λ k. length (matches p (triples_from f k))) same)
run_by (suc n) p f at end e within all =
    omega (
      arith,
      ap length (matches_taken p f at (omega (arith, e, within)) (all at (omega arith) (omega (arith, e)))),
      run_by n p f (at + 1) end (omega (arith, e)) within (λ i l w. all i (omega (arith, l)) w),
    )

run_to : (p : Pattern) (f : BitmapTriples) (at end : ℕ) → at ≤ end → end ≤ length f.array_z
    → ((i : ℕ) → at ≤ i → i < end → agrees p (triple_at f i) ≡ true)
    → length (matches p (triples_from f at)) + at ≡ end + length (matches p (triples_from f end))
run_to p f at end ordered within all = run_by (end - at) p f at end (omega (arith, ordered)) within all

-- If the matches are consecutive, their number is the length of the range.
pub count_object_in_range : (f : BitmapTriples) (p : Pattern) (at end : ℕ) → IsMatchRange f p at end
    → length (matches p (triples_of f)) + at ≡ end
count_object_in_range f p at end r =
    omega (
      arith,
      ap length (skipped p f at (omega (arith, r.ordered, r.within)) r.before),
      run_to p f at end r.ordered r.within r.all,
      ap length (none_left p f end r.within r.over),
    )

pub run_between : (f : BitmapTriples) (p : Pattern) (s q at end : ℕ) → IsRunOfTriples f p s q at end
    → ((i : ℕ) → i < at → agrees p (triple_at f i) ≡ false) → IsMatchRange f p at end
run_between f p s q at end r before =
    record { ordered = r.ordered; within = r.within; before = before; all = r.all; over = r.over }

-- If nothing is given, all triples match.
pub all_between : (f : BitmapTriples) (p : Pattern) → p.s ≡ None → p.p ≡ None → p.o ≡ None
    → IsMatchRange f p 0 (length f.array_z)
all_between f p no_s no_p no_o = record {
  ordered = omega arith;
  within = omega arith;
  before = λ i h. absurd (omega (arith, h));
  all = λ i l h. agrees_by_parts p (triple_at f i) true true true (ap (λ a. admits a (triple_at f i).0) no_s)
      (ap (λ a. admits a (triple_at f i).1) no_p) (ap (λ a. admits a (triple_at f i).2) no_o);
  over = λ i l h. absurd (omega (arith, l, h));
}

-- ---- a subject

pub no_triples : (f : BitmapTriples) (s low high : ℕ) → AreConsistentSequences f → IsPairRange f s low high → low ≡ high
    → IsMatchRange f (of_subject s) 0 0
no_triples f s low high marked pairs none = record {
  ordered = omega arith;
  within = omega arith;
  before = λ i h. absurd (omega (arith, h));
  all = λ i l h. absurd (omega (arith, h));
  over = λ i l h. other_subject (of_subject s) s (triple_at f i) refl
      (λ e. let within = pair_within f marked i h in
      absurd (omega (arith, none, pairs.from (pair_of f i) within e, pairs.to (pair_of f i) within e)));
}

pub subject_between : (f : BitmapTriples) (s low high last at end : ℕ) → AreConsistentSequences f
    → IsPairRange f s low high → last + 1 ≡ high → IsTripleRange f low last at end
    → IsMatchRange f (of_subject s) at end
subject_between f s low high last at end marked pairs next e = record {
  ordered = omega (arith, e.some);
  within = e.within;
  before = λ i h. other_subject (of_subject s) s (triple_at f i) refl
      (λ same. omega (
        arith,
        e.before i h,
        pairs.from (pair_of f i) (pair_within f marked i (omega (arith, h, e.some, e.within))) same,
      ));
  all = λ i l h. own_subject s (triple_at f i)
      (pairs.inside (pair_of f i) (omega (arith, e.begins, ones_before_mono f.bitmap_z at i l))
      (omega (arith, next, e.to i h)));
  over = λ i l h. other_subject (of_subject s) s (triple_at f i) refl
      (λ same. omega (
        arith,
        next,
        e.ends,
        ones_before_mono f.bitmap_z end i l,
        pairs.to (pair_of f i) (pair_within f marked i h) same,
      ));
}

other_by : (p : Pattern) (s : ℕ) (t : Triple) → p.s ≡ Some s → agrees (of_subject s) t ≡ false → agrees p t ≡ false
other_by p s t given other = other_subject p s t given (λ e. let own = own_subject s t e in absurd (cc))

-- No triple of the subject is before or after its range.
pub in_subject_first : (f : BitmapTriples) (p : Pattern) (s at end : ℕ) → p.s ≡ Some s
    → IsMatchRange f (of_subject s) at end → matches p (triples_from f at) ≡ matches p (triples_of f)
in_subject_first f p s at end given r =
    sym (skipped p f at (omega (arith, r.ordered, r.within)) (λ i h. other_by p s (triple_at f i) given (r.before i h)))

pub in_subject_over : (f : BitmapTriples) (p : Pattern) (s at end i : ℕ) → p.s ≡ Some s
    → IsMatchRange f (of_subject s) at end → end ≤ i → i ≤ length f.array_z → matches p (triples_from f i) ≡ []
in_subject_over f p s at end i given r h within =
    none_left p f i within (λ j l w. other_by p s (triple_at f j) given (r.over j (omega (arith, h, l)) w))

-- A triple of the subject matches if its object does.
agrees_by_object : (p : Pattern) (f : BitmapTriples) (s o i : ℕ) → p.s ≡ Some s → p.p ≡ None → p.o ≡ Some o
    → subject_at f (pair_of f i) ≡ s → agrees p (triple_at f i) ≡ (o == slice_index f.array_z i)
agrees_by_object p f s o i given_s free given_o own =
    agrees_by_parts p (triple_at f i) true true (o == slice_index f.array_z i)
    (admitted p.s s (triple_at f i).0 given_s own) (ap (λ a. admits a (triple_at f i).1) free)
    (ap (λ a. admits a (triple_at f i).2) given_o)

pub in_subject_on : (f : BitmapTriples) (p : Pattern) (s o at end i z one : ℕ) → p.s ≡ Some s → p.p ≡ None
    → p.o ≡ Some o → IsMatchRange f (of_subject s) at end → at ≤ i → i < end → z ≡ slice_index f.array_z i
    → one ≡ from_bool (o == z)
    → length (matches p (triples_from f i)) ≡ one + length (matches p (triples_from f (i + 1)))
in_subject_on f p s o at end i z one given_s free given_o r l h is more =
    count_on p f i (o == z) one (omega (arith, h, r.within))
    (agrees_by_object p f s o i given_s free given_o (has_subject s (triple_at f i) (r.all i l h))
    ∙ ap (λ n. o == n) (sym is)) more

-- A triple of the object matches if it is in the range of the subject.
pub both_count : (f : BitmapTriples) (p : Pattern) (s o from to low high : ℕ) (js : List ℕ) → p.s ≡ Some s → p.p ≡ None
    → p.o ≡ Some o → IsMatchRange f (of_subject s) from to → js ≡ positions_of f.array_z o
    → low ≤ length js → high ≤ length js → ((i : ℕ) → i < low → slice_index js i < from)
    → ((i : ℕ) → low ≤ i → i < length js → from ≤ slice_index js i)
    → ((i : ℕ) → i < high → slice_index js i < to) → ((i : ℕ) → high ≤ i → i < length js → to ≤ slice_index js i)
    → (low ≤ high) × (length (matches p (triples_of f)) + low ≡ high)
both_count f p s o from to low high js given_s free given_o between is low_in high_in below_from from_on below_to
    to_on =
    let ordered : low ≤ high =
    not_less low high (λ l. omega (
      arith,
      below_from high l,
      to_on high (omega arith) (omega (arith, l, low_in)),
      between.ordered,
    )) in
    let held : (i : ℕ) → i < length js → IsPositionOf f.array_z o (slice_index js i) =
    λ i h. held_at f.array_z js o i is h in
    let count = part_count js (λ j. agrees p (triple_at f j)) low high (record {
      ordered = ordered;
      within = high_in;
      before = λ i l. other_by p s (triple_at f (slice_index js i)) given_s
          (between.before (slice_index js i) (below_from i l));
      inside = λ i l h.
          let position = held i (omega (arith, h, high_in)) in
          let own = has_subject s (triple_at f (slice_index js i))
          (between.all (slice_index js i) (from_on i l (omega (arith, h, high_in))) (below_to i h)) in
          agrees_by_object p f s o (slice_index js i) given_s free given_o own
          ∙ eq-eqb o (slice_index f.array_z (slice_index js i)) (sym position.1);
      over = λ i l h.
          let position = held i h in
          other_by p s (triple_at f (slice_index js i)) given_s
          (between.over (slice_index js i) (to_on i l h) position.0);
    }) in (
      ordered,
      omega (
        arith,
        count,
        matches_mapped p f js,
        ap (λ ks. length (matches p (map (triple_at f) ks))) is,
        ap length (object_law p f o given_o),
      ),
    )

-- ---- a predicate

-- A pair of one triple ends after it.
pub one_triple : (f : BitmapTriples) (q last at : ℕ) → at < length f.array_z → pair_of f at ≡ q
    → ((i : ℕ) → i < at → pair_of f i < q) → q ≡ last → slice_get f.bitmap_z at ≡ Some true
    → IsTripleRange f q last at (at + 1)
one_triple f q last at h is earlier same marked = record {
  some = omega arith;
  within = omega (arith, h);
  begins = is;
  before = earlier;
  to = λ i l. omega (arith, is, same, ones_before_mono f.bitmap_z i at (omega (arith, l)));
  ends = omega (arith, is, same, ones_before_after_1_bit f.bitmap_z at marked);
}

-- The triples of the next pair of the predicate.
pub predicate_on : (f : BitmapTriples) (p at q start end : ℕ) (rest qs : List ℕ) → AreConsistentSequences f
    → IsBeforePair f p rest at → rest ≡ q ∷ qs → IsTripleRange f q q start end
    → length (matches (of_predicate p) (triples_from f at)) + start
    ≡ end + length (matches (of_predicate p) (triples_from f end))
predicate_on f p at q start end rest qs marked s split e =
    let first = next_of f p at q rest qs s split in
    let begins : Begins f q start =
    record { within = omega (arith, e.some, e.within); is = e.begins; earlier = e.before } in
    let here : (i : ℕ) → start ≤ i → i < end → pair_of f i ≡ q =
    λ i l h. omega (arith, e.begins, ones_before_mono f.bitmap_z start i l, e.to i h) in
    omega (
      arith,
      ap length (predicate_entered f p q at start rest qs marked s split begins),
      run_to (of_predicate p) f start end (omega (arith, e.some)) e.within
          (λ i l h. own_predicate p (triple_at f i) (ap (slice_index f.array_y) (here i l h) ∙ first.key)),
    )

pub between_on : (f : BitmapTriples) (p at q start end : ℕ) (rest qs : List ℕ) → IsBeforePair f p rest at
    → rest ≡ q ∷ qs → IsTripleRange f q q start end → IsBeforePair f p qs end
between_on f p at q start end rest qs s split e =
    let first = next_of f p at q rest qs s split in
    record {
      within = e.within;
      rest_is = first.behind ∙ ap (λ n. positions_from f.array_y p n) (sym e.ends);
      earlier = λ i h. omega (arith, e.ends, e.to i h);
    }

-- The steps of each pair.
pub pairs_pay_on : (f : BitmapTriples) (k before steps after : ℕ)
    → after ≤ steps + (2 * digits (groups f.bitmap_z) + 18)
    → steps ≤ before + (2 * digits (groups f.bitmap_z) + 18) * k
    → after ≤ before + (2 * digits (groups f.bitmap_z) + 18) * (k + 1)
pairs_pay_on f k before steps after few pays = omega (arith, few, pays)

-- At most as many pairs are read as there are, and at most `most`.
pub pairs_paid : (f : BitmapTriples) (k rest n most before after : ℕ) → k + rest ≡ n → k ≤ most
    → after ≤ before + (2 * digits (groups f.bitmap_z) + 18) * k
    → after ≤ before + (2 * digits (groups f.bitmap_z) + 18) * min most n
pairs_paid f k rest n most before after split few pays =
    let within : k ≤ min most n = omega (arith, split, few) in
    omega (arith, pays, mul-le-mul_left (2 * digits (groups f.bitmap_z) + 18) within)

-- ---- an object

-- A triple of the object matches if its predicate does.
agrees_by_predicate : (p : Pattern) (f : BitmapTriples) (q o i n : ℕ) → p.s ≡ None → p.p ≡ Some q → p.o ≡ Some o
    → IsPositionOf f.array_z o i → n ≡ slice_index f.array_y (pair_of f i) → agrees p (triple_at f i) ≡ (q == n)
agrees_by_predicate p f q o i n free given_p given_o position is =
    agrees_by_parts p (triple_at f i) true (q == n) true (ap (λ a. admits a (triple_at f i).0) free)
    (ap (λ a. admits a (triple_at f i).1) given_p
    ∙ ap (λ m. q == m) (sym is)) (admitted p.o o (triple_at f i).2 given_o position.1)
    ∙ and-true (q == n)

-- The first remaining triple of the object is counted or not.
object_on : (p : Pattern) (f : BitmapTriples) (rest js : List ℕ) (at : ℕ) (b : Bool) (one : ℕ) → 0 < length rest
    → at ≡ slice_index rest 0 → js ≡ drop 1 rest → agrees p (triple_at f at) ≡ b → one ≡ from_bool b
    → length (matches p (map (triple_at f) rest)) ≡ one + length (matches p (map (triple_at f) js))
object_on p f rest js at true one h first behind is more =
    omega (arith, more, ap length (object_step p f rest js at true h first behind is))
object_on p f rest js at false one h first behind is none =
    omega (arith, none, ap length (object_step p f rest js at false h first behind is))

-- The same, by its predicate.
pub in_object_on : (p : Pattern) (f : BitmapTriples) (q o : ℕ) (rest js : List ℕ) (at n one : ℕ) → p.s ≡ None
    → p.p ≡ Some q → p.o ≡ Some o → All (IsPositionOf f.array_z o) rest → 0 < length rest → at ≡ slice_index rest 0
    → js ≡ drop 1 rest
    → n ≡ slice_index f.array_y (pair_of f at) → one ≡ from_bool (q == n)
    → length (matches p (map (triple_at f) rest)) ≡ one + length (matches p (map (triple_at f) js))
in_object_on p f q o rest js at n one free given_p given_o all some first behind is more =
    object_on p f rest js at (q == n) one some first behind
    (agrees_by_predicate p f q o at n free given_p given_o (among_first f.array_z o rest at some first all) is) more

-- The matches of an object are as many as its list is long.
pub object_count : (f : BitmapTriples) (o : ℕ)
    → length (positions_of f.array_z o) ≡ length (matches (of_object o) (triples_of f))
object_count f o = sym (length-map (positions_of f.array_z o) (triple_at f)) ∙ ap length (object_triples f o)

pub list_digits : (f : BitmapTriples) (o : ℕ) (js : List ℕ) → js ≡ positions_of f.array_z o
    → digits (length js) ≡ digits (length (matches (of_object o) (triples_of f)))
list_digits f o js is = ap digits (ap length is ∙ object_count f o)
