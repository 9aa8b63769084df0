-- The matches from an index on, by whether its triple matches.
use Rattle.std.proofs.Common.{◌≡◌, ℕ, ◌+◌, ◌-◌, ◌*◌, ◌^◌, ◌<◌, ◌≤◌, [], ◌∷◌, zero, suc, length, slice_index, map, ap}
use Rattle.std.proofs.Common.{sym, ◌∙◌, arith, true, false, cond}
use Rattle.std.proofs.Math.Nat.{lt_of_not-le}
use Rattle.std.specs.List.{filter, range_with_len}
use Rattle.std.proofs.lemmas.List.Sums.{length-filter, count_by-le-length}
use Rattle.hdt_seq.specs.Laws.Numbers.{numbers_below}
use Rattle.hdt_triples.specs.declared.pattern.Pattern.{Pattern}
use Rattle.hdt_triples.specs.declared.triples.Triples.{Triples}
use Rattle.hdt_triples.specs.TripleSequences.{BitmapTriples, Triple, pair_of, subject_at, triple_at, triples_of}
use Rattle.hdt_triples.specs.Laws.TripleSequences.{length-triples}
use Rattle.hdt_triples.specs.Patterns.{agrees, matches}
use Rattle.hdt_triples.specs.Views.{triples_view}
use Rattle.hdt_triples.specs.Scanning.{triples_from}
use Rattle.hdt_triples.specs.Bounds.{scan_cost, step_bound}

pub not_less : (a b : ℕ) → (b < a → ⊥) → a ≤ b
not_less a b never = omega (arith, lt_of_not-le {n = b + 1} {m = a} (λ h. never (omega (arith, h))))

range_first : (a b : ℕ) → a < b → range_with_len a (b - a) ≡ a ∷ range_with_len (a + 1) (b - (a + 1))
range_first a b h = let e : b - a ≡ suc (b - (a + 1)) = omega arith in ap (range_with_len a) e

pub range_none : (a b : ℕ) → b ≤ a → range_with_len a (b - a) ≡ []
range_none a b h = let e : b - a ≡ 0 = omega arith in ap (range_with_len a) e

pub parts_are : (f : BitmapTriples) (j s p : ℕ) → subject_at f (pair_of f j) ≡ s
    → slice_index f.array_y (pair_of f j) ≡ p → triple_at f j ≡ (s, p, slice_index f.array_z j)
parts_are f j s p e h = ap (λ x. let t : Triple = (x, slice_index f.array_y (pair_of f j), slice_index f.array_z j) in
    t) e ∙ ap (λ y. let t : Triple = (s, y, slice_index f.array_z j) in t) h

-- The triples from index 0 on are all triples.
pub from_start : (f : BitmapTriples) → triples_from f 0 ≡ triples_of f
unfolding triples_from triples_of
from_start f = let e : length f.array_z - 0 ≡ length f.array_z = omega arith in
    ap (λ (n : ℕ). map (triple_at f) (range_with_len 0 n)) e

pub from_first : (f : BitmapTriples) (j : ℕ) → j < length f.array_z
    → triples_from f j ≡ triple_at f j ∷ triples_from f (j + 1)
unfolding triples_from
from_first f j h = ap (map (triple_at f)) (range_first j (length f.array_z) h)

from_end : (f : BitmapTriples) (j : ℕ) → length f.array_z ≤ j → triples_from f j ≡ []
unfolding triples_from
from_end f j h = ap (map (triple_at f)) (range_none j (length f.array_z) h)

pub matches_taken : (p : Pattern) (f : BitmapTriples) (j : ℕ) → j < length f.array_z → agrees p (triple_at f j) ≡ true
    → matches p (triples_from f j) ≡ triple_at f j ∷ matches p (triples_from f (j + 1))
unfolding matches
matches_taken p f j h took =
    ap (filter (agrees p)) (from_first f j h)
    ∙ ap (λ b. cond b (triple_at f j ∷ filter (agrees p) (triples_from f (j + 1)))
    (filter (agrees p) (triples_from f (j + 1)))) took

pub matches_passed : (p : Pattern) (f : BitmapTriples) (j : ℕ) → j < length f.array_z → agrees p (triple_at f j) ≡ false
    → matches p (triples_from f j) ≡ matches p (triples_from f (j + 1))
unfolding matches
matches_passed p f j h passed =
    ap (filter (agrees p)) (from_first f j h)
    ∙ ap (λ b. cond b (triple_at f j ∷ filter (agrees p) (triples_from f (j + 1)))
    (filter (agrees p) (triples_from f (j + 1)))) passed

pub matches_none : (p : Pattern) (f : BitmapTriples) (j : ℕ) → length f.array_z ≤ j → matches p (triples_from f j) ≡ []
unfolding matches
matches_none p f j h = ap (filter (agrees p)) (from_end f j h)

jumped_by : (n : ℕ) (p : Pattern) (f : BitmapTriples) (j k : ℕ) → j + n ≡ k → k ≤ length f.array_z
    → ((i : ℕ) → j ≤ i → i < k → agrees p (triple_at f i) ≡ false)
    → matches p (triples_from f j) ≡ matches p (triples_from f k)
jumped_by zero p f j k e h none = ap (λ i. matches p (triples_from f i)) (let same : j ≡ k = omega (arith, e) in same)
jumped_by (suc n) p f j k e h none =
    matches_passed p f j (omega (arith, e, h)) (none j (omega arith) (omega (arith, e)))
    ∙ jumped_by n p f (j + 1) k (omega (arith, e)) h (λ i l w. none i (omega (arith, l)) w)

-- Indices without a match can be passed over.
pub jumped : (p : Pattern) (f : BitmapTriples) (j k : ℕ) → j ≤ k → k ≤ length f.array_z
    → ((i : ℕ) → j ≤ i → i < k → agrees p (triple_at f i) ≡ false)
    → matches p (triples_from f j) ≡ matches p (triples_from f k)
jumped p f j k l h none = jumped_by (k - j) p f j k (omega (arith, l)) h none

-- There is no match before index j.
pub skipped : (p : Pattern) (f : BitmapTriples) (j : ℕ) → j ≤ length f.array_z
    → ((i : ℕ) → i < j → agrees p (triple_at f i) ≡ false) → matches p (triples_of f) ≡ matches p (triples_from f j)
skipped p f j h none = ap (matches p) (sym (from_start f)) ∙ jumped p f 0 j (omega arith) h (λ i l w. none i w)

-- There is no match from index j on.
pub none_left : (p : Pattern) (f : BitmapTriples) (j : ℕ) → j ≤ length f.array_z
    → ((i : ℕ) → j ≤ i → i < length f.array_z → agrees p (triple_at f i) ≡ false) → matches p (triples_from f j) ≡ []
none_left p f j h none = jumped p f j (length f.array_z) h (omega arith) none
    ∙ matches_none p f (length f.array_z) (omega arith)

-- There are at most as many matches as triples,
pub matches_few : (p : Pattern) (f : BitmapTriples) → length (matches p (triples_of f)) ≤ length f.array_z
unfolding matches
matches_few p f = omega (
  arith,
  length-filter (agrees p) (triples_of f),
  count_by-le-length (agrees p) (triples_of f),
  length-triples f,
)

-- so their number is below 2^64.
pub matches_fit : (p : Pattern) (t : Triples) → length (matches p (triples_of (triples_view t))) < 2 ^ 64
unfolding triples_view
matches_fit p t = omega (arith, matches_few p (triples_view t), numbers_below t.array_z)

-- The bound on the steps of a scan of all triples.
pub scan_bound : (f : BitmapTriples) (p : Pattern) → step_bound (scan_cost f p) f ≡ 4 * length f.array_z
unfolding step_bound scan_cost
scan_bound f p = omega arith
