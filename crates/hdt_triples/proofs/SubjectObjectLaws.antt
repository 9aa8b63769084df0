-- The triples of a subject with an object.
use Rattle.std.proofs.Common.{◌≡◌, ◌≢◌, ◌⊎◌, inl, inr, ℕ, ◌+◌, ◌-◌, ◌*◌, ◌<◌, ◌≤◌, zero, suc, List, [], ◌∷◌, length}
use Rattle.std.proofs.Common.{slice_index, ap, sym, ◌∙◌, arith, Bool, true, false, Some, None, refl, subst}
use Rattle.std.proofs.lemmas.Bool.{cases_eq}
use Rattle.hdt_seq.specs.Directory.{groups}
use Rattle.hdt_seq.specs.Width.{digits}
use Rattle.hdt_seq.specs.Laws.RankSelect.{ones_before_mono}
use Rattle.hdt_triples.specs.declared.pattern.Pattern.{Pattern}
use Rattle.hdt_triples.specs.declared.triples.TriplePosition.{TriplePosition}
use Rattle.hdt_triples.specs.Bounds.{lookup_cost, step_bound, of_subject, IsWithinBudget, list_search_cost}
use Rattle.hdt_triples.specs.Bounds.{subject_cost}
use Rattle.hdt_triples.specs.TripleSequences.{BitmapTriples, Triple, pair_of, subject_at, triple_at}
use Rattle.hdt_triples.specs.Inside.Runs.{IsNextWithObject}
use Rattle.hdt_triples.specs.InvertedIndex.{positions_of}
use Rattle.hdt_triples.specs.Patterns.{admits, agrees, matches}
use Rattle.hdt_triples.specs.Scanning.{IsTriplePosition, triples_from}
use Rattle.hdt_triples.proofs.PatternLaws.{admitted, other_object, other_subject, agrees_by_parts}
use Rattle.hdt_triples.proofs.MatchCountLaws.{list_digits}
use Rattle.hdt_triples.proofs.SubjectLaws.{matches_skipped, budget_step}
use Rattle.hdt_triples.proofs.ScanLaws.{jumped, matches_passed, matches_taken, none_left, parts_are}

-- A triple with the subject and the object matches.
pub both_agree : (p : Pattern) (f : BitmapTriples) (s o i : ℕ) → p.s ≡ Some s → p.p ≡ None → p.o ≡ Some o
    → subject_at f (pair_of f i) ≡ s → slice_index f.array_z i ≡ o → agrees p (triple_at f i) ≡ true
both_agree p f s o i given_s free given_o own object =
    agrees_by_parts p (triple_at f i) true true true (admitted p.s s (triple_at f i).0 given_s own)
    (ap (λ a. admits a (triple_at f i).1) free) (admitted p.o o (triple_at f i).2 given_o object)

both_taken : (p : Pattern) (f : BitmapTriples) (s o q i : ℕ) → p.s ≡ Some s → p.p ≡ None → p.o ≡ Some o
    → i < length f.array_z → q ≡ pair_of f i → subject_at f (pair_of f i) ≡ s → slice_index f.array_z i ≡ o
    → matches p (triples_from f i) ≡ (s, slice_index f.array_y q, o) ∷ matches p (triples_from f (i + 1))
both_taken p f s o q i given_s free given_o h pair own object =
    let is : triple_at f i ≡ (s, slice_index f.array_y q, o) =
    parts_are f i s (slice_index f.array_y q) own (ap (slice_index f.array_y) (sym pair))
    ∙ ap (λ z. let t : Triple = (s, slice_index f.array_y q, z) in t) object in
    matches_taken p f i h (both_agree p f s o i given_s free given_o own object)
    ∙ ap (λ t. t ∷ matches p (triples_from f (i + 1))) is

-- A match found by the scan,
pub scan_taken : (p : Pattern) (f : BitmapTriples) (s o : ℕ) (at : TriplePosition) → p.s ≡ Some s → p.p ≡ None
    → p.o ≡ Some o → IsTriplePosition f at → at.at < length f.array_z → at.subject ≡ s → slice_index f.array_z at.at ≡ o
    → matches p (triples_from f at.at) ≡ (s, slice_index f.array_y at.pair, o) ∷ matches p (triples_from f (at.at + 1))
scan_taken p f s o at given_s free given_o st h own object =
    both_taken p f s o at.pair at.at given_s free given_o h st.pair_is (ap (subject_at f) (sym st.pair_is)
    ∙ sym st.subject_is ∙ own) object

pub scan_missed : (p : Pattern) (f : BitmapTriples) (o i : ℕ) → p.o ≡ Some o → i < length f.array_z
    → slice_index f.array_z i ≢ o → matches p (triples_from f i) ≡ matches p (triples_from f (i + 1))
scan_missed p f o i given h ne = matches_passed p f i h (other_object p o (triple_at f i) given ne)

-- and one found in the object's list.
pub next_taken : (p : Pattern) (f : BitmapTriples) (s o from : ℕ) (at : TriplePosition) → p.s ≡ Some s → p.p ≡ None
    → p.o ≡ Some o → IsNextWithObject f s o from at
    → matches p (triples_from f from) ≡ (s, slice_index f.array_y at.pair, o) ∷ matches p (triples_from f (at.at + 1))
next_taken p f s o from at given_s free given_o n =
    jumped p f from at.at n.later (omega (arith, n.within))
    (λ i l w. other_object p o (triple_at f i) given_o (n.first i l w))
    ∙ scan_taken p f s o at given_s free given_o n.positioned n.within n.own n.object

none_by : (p : Pattern) (f : BitmapTriples) (s o i : ℕ) → p.s ≡ Some s → p.o ≡ Some o
    → (slice_index f.array_z i ≡ o → subject_at f (pair_of f i) ≢ s) → (slice_index f.array_z i ≡ o)
    ⊎ (slice_index f.array_z i ≢ o)
    → agrees p (triple_at f i) ≡ false
none_by p f s o i given_s given_o none (inl e) = other_subject p s (triple_at f i) given_s (none e)
none_by p f s o i given_s given_o none (inr ne) = other_object p o (triple_at f i) given_o ne

pub no_next : (p : Pattern) (f : BitmapTriples) (s o from : ℕ) → p.s ≡ Some s → p.o ≡ Some o → from ≤ length f.array_z
    → ((i : ℕ) → from ≤ i → i < length f.array_z → slice_index f.array_z i ≡ o → subject_at f (pair_of f i) ≢ s)
    → matches p (triples_from f from) ≡ []
no_next p f s o from given_s given_o h none =
    none_left p f from h (λ i l w. none_by p f s o i given_s given_o (none i l w)
    (cases_eq (slice_index f.array_z i) o))

-- After a triple of a later subject there is no triple of this one.
pub later_subject : (f : BitmapTriples) (s from at pair found i : ℕ) → s ≤ subject_at f (pair_of f from) → from ≤ at
    → pair ≡ pair_of f at → found ≡ subject_at f pair → found ≢ s → at ≤ i → subject_at f (pair_of f i) ≢ s
later_subject f s from at pair found i reached l is found_is ne h same =
    let here : found ≡ subject_at f (pair_of f at) = found_is ∙ ap (subject_at f) is in
    let first : subject_at f (pair_of f from) ≤ subject_at f (pair_of f at) =
    omega (
      arith,
      ones_before_mono f.bitmap_y (pair_of f from) (pair_of f at)
          (ones_before_mono f.bitmap_z from at l),
    ) in
    let last : subject_at f (pair_of f at) ≤ subject_at f (pair_of f i) =
    omega (arith, ones_before_mono f.bitmap_y (pair_of f at) (pair_of f i) (ones_before_mono f.bitmap_z at i h)) in
    ne (omega (arith, here, first, last, reached, same))

-- From a later index on there are at most as many matches.
later_by : (n : ℕ) (p : Pattern) (f : BitmapTriples) (at k : ℕ) → at + n ≡ k → k ≤ length f.array_z
    → length (matches p (triples_from f k)) ≤ length (matches p (triples_from f at))
later_by zero p f at k e h = let same : at ≡ k = omega (arith, e) in
    omega (arith, ap (λ j. length (matches p (triples_from f j))) same)
later_by (suc n) p f at k e h =
    omega (
      arith,
      later_by n p f (at + 1) k (omega (arith, e)) h,
      one_more p f at (agrees p (triple_at f at)) (omega (arith, e, h)) refl,
    )
  where
    one_more : (p : Pattern) (f : BitmapTriples) (at : ℕ) (b : Bool) → at < length f.array_z
        → agrees p (triple_at f at) ≡ b
        → length (matches p (triples_from f (at + 1))) ≤ length (matches p (triples_from f at))
    one_more p f at true h is = omega (arith, ap length (matches_taken p f at h is))
    one_more p f at false h is = omega (arith, ap length (matches_passed p f at h is))

pub fewer_left : (p : Pattern) (f : BitmapTriples) (at k : ℕ) → at ≤ k → k ≤ length f.array_z
    → length (matches p (triples_from f k)) ≤ length (matches p (triples_from f at))
fewer_left p f at k l h = later_by (k - at) p f at k (omega (arith, l)) h

-- The saved steps pay for a search in the list.
pub spared : (s : ℕ) (f : BitmapTriples) (at k steps after : ℕ) → at ≤ k → k ≤ length f.array_z → after ≤ steps
    → IsWithinBudget (subject_cost f s) f steps (triples_from f at)
    → IsWithinBudget (subject_cost f s) f after (triples_from f k)
unfolding step_bound subject_cost
spared s f at k steps after l h few pays = omega (arith, few, pays, fewer_left (of_subject s) f at k l h)

-- ---- the bound by matches: `search_cost` is the cost of a search in the list, `most` the bound, `left` the remaining
-- matches

abbrev pub IsWithinListBudget : ℕ → ℕ → ℕ → ℕ → ℕ → Type 0
IsWithinListBudget search_cost most steps left saved_steps = steps + 4 * search_cost * (1 + left)
    ≤ most + 3 * saved_steps

-- At the start.
pub first_price : (f : BitmapTriples) (o n : ℕ) (js : List ℕ) → js ≡ positions_of f.array_z o → n ≡ digits (length js)
    → n + 20 ≡ list_search_cost f o
unfolding list_search_cost
first_price f o n js is digits_is = omega (arith, digits_is, list_digits f o js is)

pub first_goes : (f : BitmapTriples) (search_cost steps left all : ℕ)
    → steps ≤ digits (groups f.bitmap_y) + digits (groups f.bitmap_z) + 19 → left ≡ all
    → IsWithinListBudget search_cost (lookup_cost f + 4 * search_cost * (1 + all)) steps left 0
unfolding lookup_cost
first_goes f search_cost steps left all few same = omega (arith, few, ap (λ n. 4 * search_cost * (1 + n)) same)

pub first_short : (f : BitmapTriples) (search_cost steps all : ℕ)
    → steps ≤ digits (groups f.bitmap_y) + digits (groups f.bitmap_z) + 19
    → steps ≤ lookup_cost f + 4 * search_cost * (1 + all)
unfolding lookup_cost
first_short f search_cost steps all few = omega (arith, few)

pub first_pays : (s : ℕ) (f : BitmapTriples) (j steps : ℕ) → j ≤ length f.array_z
    → ((i : ℕ) → i < j → subject_at f (pair_of f i) ≢ s)
    → steps ≤ digits (groups f.bitmap_y) + digits (groups f.bitmap_z) + 19
    → IsWithinBudget (subject_cost f s) f (steps + 0) (triples_from f j)
unfolding step_bound subject_cost lookup_cost
first_pays s f j steps h before few = omega (arith, few, ap length (matches_skipped (of_subject s) s f j refl h before))

pub goes_short : (search_cost most steps left saved_steps : ℕ) → saved_steps ≤ search_cost
    → IsWithinListBudget search_cost most steps left saved_steps → steps ≤ most
goes_short search_cost most steps left saved_steps room goes = omega (arith, room, goes)

pub some_price : (f : BitmapTriples) (o : ℕ) → 20 ≤ list_search_cost f o
unfolding list_search_cost
some_price f o = omega arith

-- In each iteration.
pub budget_after : (s : ℕ) (f : BitmapTriples) (j next steps after : ℕ) → j < length f.array_z
    → subject_at f (pair_of f j) ≡ s → after ≤ steps + 4 → next ≡ j + 1
    → IsWithinBudget (subject_cost f s) f steps (triples_from f j)
    → IsWithinBudget (subject_cost f s) f after (triples_from f next)
budget_after s f j next steps after h own few is pays =
    subst (λ k. IsWithinBudget (subject_cost f s) f after (triples_from f k)) (sym is)
    (budget_step s f j steps after h own few pays)

pub goes_miss : (search_cost most steps after more left saved_steps : ℕ) → after ≤ steps + 3 → more ≡ left
    → IsWithinListBudget search_cost most steps more saved_steps
    → IsWithinListBudget search_cost most after left (saved_steps + 1)
goes_miss search_cost most steps after more left saved_steps few is goes =
    omega (arith, few, goes, ap (λ n. 4 * search_cost * (1 + n)) is)

pub goes_hit : (search_cost most steps after more left saved_steps : ℕ) → 1 ≤ search_cost → after ≤ steps + 4
    → more ≡ suc left → IsWithinListBudget search_cost most steps more saved_steps
    → IsWithinListBudget search_cost most after left saved_steps
goes_hit search_cost most steps after more left saved_steps some few is goes =
    omega (arith, some, few, goes, ap (λ n. 4 * search_cost * (1 + n)) is)

pub goes_skip : (search_cost most steps after more left saved_steps : ℕ) → after ≤ steps + search_cost
    → saved_steps ≤ search_cost → more ≡ suc left → IsWithinListBudget search_cost most steps more saved_steps
    → IsWithinListBudget search_cost most after left 0
goes_skip search_cost most steps after more left saved_steps few room is goes =
    omega (arith, room, few, goes, ap (λ n. 4 * search_cost * (1 + n)) is)

pub goes_over : (search_cost most steps after left saved_steps : ℕ) → after ≤ steps + search_cost
    → saved_steps ≤ search_cost → IsWithinListBudget search_cost most steps left saved_steps → after ≤ most
goes_over search_cost most steps after left saved_steps few room goes = omega (arith, few, room, goes)
