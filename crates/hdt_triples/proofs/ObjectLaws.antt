-- The triples of an object.
use Rattle.std.proofs.Common.{◌≡◌, ℕ, ◌+◌, ◌-◌, ◌<◌, ◌≤◌, ◌==◌, List, [], ◌∷◌, length, map, min, filter, drop, refl, ap}
use Rattle.std.proofs.Common.{sym, ◌∙◌, arith, Bool, true, false, cond, Some, slice_index, subst, eq-eqb}
use Rattle.std.proofs.lemmas.Bool.{eqb-true, eqb-false}
use Rattle.std.proofs.lemmas.List.{nil_from_length, drop-map, drop_min, length-drop}
use Rattle.std.proofs.lemmas.List.Elements.{filter_passes, All-drop, All-filter, All-from_get_or, All-rest}
use Rattle.std.proofs.lemmas.List.FromFn.{length-range_with_len, get_or-range_with_len}
use Rattle.std.specs.List.{All, range_with_len}
use Rattle.hdt_triples.specs.declared.pattern.Pattern.{Pattern}
use Rattle.hdt_triples.specs.TripleSequences.{BitmapTriples, Triple, triple_at, triples_of}
use Rattle.hdt_triples.specs.Patterns.{agrees, matches}
use Rattle.hdt_triples.specs.Scanning.{triples_from}
use Rattle.hdt_triples.specs.Bounds.{of_object, object_cost, IsWithinBudget, step_bound}
use Rattle.hdt_triples.specs.InvertedIndex.{positions_of, positions_from, IsPositionOf}
use Rattle.hdt_triples.proofs.PatternLaws.{other_object}
use Rattle.hdt_triples.proofs.InvertedIndexLaws.{split_rest}

pub among_positions : (xs : List ℕ) (k : ℕ) → All (IsPositionOf xs k) (positions_of xs k)
among_positions xs k =
    let keep : ℕ → Bool = λ i. slice_index xs i == k in
    let range : All (λ i. i < length xs) (range_with_len 0 (length xs)) =
    All-from_get_or (λ i. i < length xs) (range_with_len 0 (length xs)) 0
    (λ i h. let small : i < length xs = omega (arith, h, length-range_with_len 0 (length xs)) in
    omega (arith, small, get_or-range_with_len 0 (length xs) i 0 small)) in
    let within : All (λ i. i < length xs) (positions_of xs k) =
    All-filter keep (λ i. i < length xs) (range_with_len 0 (length xs)) range in
    λ i d h. (within i d h, eqb-true _ _ (filter_passes keep (range_with_len 0 (length xs)) i d h))

-- A filter that drops only triples without a match doesn't change the matches.
by_test : (p : Pattern) (t : ℕ → Triple) (keep : ℕ → Bool) (j : ℕ) (js : List ℕ) (b c : Bool) → (b ≡ false → c ≡ false)
    → filter (agrees p) (map t (filter keep js)) ≡ filter (agrees p) (map t js)
    → agrees p (t j) ≡ c → filter (agrees p) (map t (cond b (j ∷ filter keep js) (filter keep js)))
    ≡ cond c (t j ∷ filter (agrees p) (map t js)) (filter (agrees p) (map t js))
by_test p t keep j js true c none rest is =
    ap (λ x. cond x (t j ∷ filter (agrees p) (map t (filter keep js))) (filter (agrees p) (map t (filter keep js)))) is
    ∙ ap (λ xs. cond c (t j ∷ xs) xs) rest
by_test p t keep j js false c none rest is =
    rest ∙ ap (λ x. cond x (t j ∷ filter (agrees p) (map t js)) (filter (agrees p) (map t js))) (sym (none refl))

kept_matches : (p : Pattern) (t : ℕ → Triple) (keep : ℕ → Bool) (js : List ℕ)
    → ((j : ℕ) → keep j ≡ false → agrees p (t j) ≡ false)
    → filter (agrees p) (map t (filter keep js)) ≡ filter (agrees p) (map t js)
kept_matches p t keep [] none = refl
kept_matches p t keep (j ∷ js) none =
    by_test p t keep j js (keep j) (agrees p (t j)) (none j) (kept_matches p t keep js none) refl

-- The matches are among the triples of the object.
pub object_law : (p : Pattern) (f : BitmapTriples) (o : ℕ) → p.o ≡ Some o
    → matches p (map (triple_at f) (positions_of f.array_z o)) ≡ matches p (triples_of f)
unfolding matches triples_of
object_law p f o given = kept_matches p (triple_at f) (λ j. slice_index f.array_z j == o)
    (range_with_len 0 (length f.array_z))
    (λ j no. other_object p o (triple_at f j) given (eqb-false (slice_index f.array_z j) o no))

-- The same from an index on.
pub object_left : (p : Pattern) (f : BitmapTriples) (o a : ℕ) (js : List ℕ) → p.o ≡ Some o
    → js ≡ positions_from f.array_z o a → matches p (map (triple_at f) js) ≡ matches p (triples_from f a)
unfolding matches triples_from
object_left p f o a js given is =
    ap (λ xs. filter (agrees p) (map (triple_at f) xs)) is
    ∙ kept_matches p (triple_at f) (λ j. slice_index f.array_z j == o) (range_with_len a (length f.array_z - a))
    (λ j no. other_object p o (triple_at f j) given (eqb-false (slice_index f.array_z j) o no))

-- All triples of the object match if nothing else is given.
all_match : (f : BitmapTriples) (o : ℕ) (js : List ℕ) → All (IsPositionOf f.array_z o) js
    → matches (of_object o) (map (triple_at f) js) ≡ map (triple_at f) js
unfolding matches
all_match f o [] all = refl
all_match f o (j ∷ js) all =
    ap (λ b. cond b (triple_at f j ∷ filter (agrees (of_object o)) (map (triple_at f) js))
    (filter (agrees (of_object o)) (map (triple_at f) js)))
    (eq-eqb o (slice_index f.array_z j) (sym (all 0 0 (omega arith)).1))
    ∙ ap (λ ts. triple_at f j ∷ ts) (all_match f o js (All-rest (IsPositionOf f.array_z o) j js (j ∷ js) refl all))

pub object_triples : (f : BitmapTriples) (o : ℕ)
    → map (triple_at f) (positions_of f.array_z o) ≡ matches (of_object o) (triples_of f)
object_triples f o = sym (all_match f o (positions_of f.array_z o) (among_positions f.array_z o))
    ∙ object_law (of_object o) f o refl

-- So the list without its first elements has the matches without the first ones.
pub object_after : (f : BitmapTriples) (o skip next : ℕ) (places js : List ℕ) → places ≡ positions_of f.array_z o
    → next ≡ min skip (length places) → js ≡ drop next places
    → matches (of_object o) (map (triple_at f) js) ≡ drop skip (matches (of_object o) (triples_of f))
object_after f o skip next places js is least rest =
    let same : js ≡ drop skip (positions_of f.array_z o) = rest ∙ ap (λ n. drop n places) least ∙ drop_min skip places
    ∙ ap (drop skip) is in
    ap (λ ks. matches (of_object o) (map (triple_at f) ks)) same
    ∙ all_match f o (drop skip (positions_of f.array_z o))
    (All-drop (IsPositionOf f.array_z o) skip (positions_of f.array_z o) (among_positions f.array_z o))
    ∙ sym (drop-map (triple_at f) skip (positions_of f.array_z o))
    ∙ ap (drop skip) (object_triples f o)

pub object_after_budget : (f : BitmapTriples) (o skip next steps : ℕ) (places js : List ℕ)
    → places ≡ positions_of f.array_z o → next ≡ min skip (length places) → js ≡ drop next places → steps ≡ 0
    → IsWithinBudget (object_cost o) f steps (map (triple_at f) js)
unfolding step_bound object_cost
object_after_budget f o skip next steps places js is least rest none =
    omega (
      arith,
      none,
      ap length (object_after f o skip next places js is least rest),
      length-drop skip (matches (of_object o) (triples_of f)),
    )

pub object_budget_first : (f : BitmapTriples) (o steps : ℕ) → steps ≤ 20
    → IsWithinBudget (object_cost o) f steps (map (triple_at f) (positions_of f.array_z o))
unfolding step_bound object_cost
object_budget_first f o steps few = omega (arith, few, ap length (object_law (of_object o) f o refl))

pub object_step : (p : Pattern) (f : BitmapTriples) (rest js : List ℕ) (at : ℕ) (b : Bool) → 0 < length rest
    → at ≡ slice_index rest 0 → js ≡ drop 1 rest → agrees p (triple_at f at) ≡ b
    → matches p (map (triple_at f) rest)
    ≡ cond b (triple_at f at ∷ matches p (map (triple_at f) js)) (matches p (map (triple_at f) js))
unfolding matches
object_step p f rest js at b h first behind is =
    ap (λ xs. matches p (map (triple_at f) xs)) (split_rest rest js at h first behind)
    ∙ ap (λ x. cond x (triple_at f at ∷ matches p (map (triple_at f) js)) (matches p (map (triple_at f) js))) is

pub object_over : (p : Pattern) (f : BitmapTriples) (rest : List ℕ) → length rest ≡ 0
    → matches p (map (triple_at f) rest) ≡ []
unfolding matches
object_over p f rest h = ap (λ xs. matches p (map (triple_at f) xs)) (nil_from_length rest h)

pub object_budget_step : (o : ℕ) (f : BitmapTriples) (rest js : List ℕ) (at steps after : ℕ) → 0 < length rest
    → at ≡ slice_index rest 0 → js ≡ drop 1 rest → IsPositionOf f.array_z o at → after ≤ steps + 20
    → IsWithinBudget (object_cost o) f steps (map (triple_at f) rest)
    → IsWithinBudget (object_cost o) f after (map (triple_at f) js)
unfolding step_bound object_cost
object_budget_step o f rest js at steps after h first behind position few pays =
    let own : agrees (of_object o) (triple_at f at) ≡ true = eq-eqb o (slice_index f.array_z at) (sym position.1) in
    omega (arith, few, pays, ap length (object_step (of_object o) f rest js at true h first behind own))

pub among_first : (xs : List ℕ) (k : ℕ) (rest : List ℕ) (at : ℕ) → 0 < length rest → at ≡ slice_index rest 0
    → All (IsPositionOf xs k) rest → IsPositionOf xs k at
among_first xs k rest at h first all = subst (IsPositionOf xs k) (sym first) (all 0 0 h)

pub among_rest : (xs : List ℕ) (k : ℕ) (rest js : List ℕ) (at : ℕ) → 0 < length rest → at ≡ slice_index rest 0
    → js ≡ drop 1 rest → All (IsPositionOf xs k) rest → All (IsPositionOf xs k) js
among_rest xs k rest js at h first behind all =
    All-rest (IsPositionOf xs k) at js rest (split_rest rest js at h first behind) all
