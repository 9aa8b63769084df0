-- Checking one by one that strings can form a section.
use Rattle.std.proofs.Common.{◌≡◌, ◌≢◌, ℕ, ◌+◌, ◌<◌, ◌&&◌, ◌||◌, not, Bool, true, false, List, [], ◌∷◌, length, get_or}
use Rattle.std.proofs.Common.{nat_eq, eqb, eqb-true, sym, subst, arith, eq-eqb}
use Rattle.std.specs.Str.{is_utf8}
use Rattle.std.proofs.lemmas.Bool.{eqb-false, and_parts, and_from}
use Rattle.std.proofs.lemmas.List.{get_or_default}
use Rattle.std.proofs.lemmas.List.Sums.{prefix_len_passes, position_or_len_is}
use Rattle.hdt_wire.specs.Checks.{len_before_zero}
use Rattle.hdt_wire.specs.Laws.Checks.{not-true}
use Rattle.hdt_wire.specs.Control.{HasNoZero}
use Rattle.hdt_front.specs.StringChecks.{precedes}
use Rattle.hdt_front.specs.Laws.FrontCodingSteps.{NoZero, Ascending}
use Rattle.hdt_front.specs.Laws.FrontCoding.{nonzero_from, nonzero_to}

pub no_zero : (s : List ℕ) → len_before_zero s ≡ length s → NoZero s
no_zero s e =
    let p : ℕ → Bool = λ n. not (eqb n 0) in
    let none : HasNoZero s = λ k d lt.
    let inside : k < len_before_zero s = omega (arith, e, lt) in
    let same : get_or s k d ≡ get_or s k 0 = get_or_default s k d 0 lt in
    rw same (eqb-false _ _ (not-true _ (prefix_len_passes p s k 0 inside))) in
    nonzero_to s none

nonzero : (b : ℕ) → b ≢ 0 → eqb b 0 ≡ false
nonzero b ne = grind (arith, ne)

pub zero_none : (s : List ℕ) → NoZero s → len_before_zero s ≡ length s
zero_none s h = position_or_len_is (λ b. eqb b 0) s (length s) 0 (omega arith)
    (λ j lt. nonzero (get_or s j 0) (nonzero_from s h j 0 lt)) (λ lt. absurd (omega (arith, lt)))

abbrev can : ℕ → List ℕ → List ℕ → Bool
can i before s = is_utf8 s && (nat_eq (len_before_zero s) (length s) && (nat_eq i 0 || precedes before s))

forth_from : (i : ℕ) (before s : List ℕ) (rest : List (List ℕ)) → can i before s ≡ true → Ascending (i + 1) s rest
    → Ascending i before (s ∷ rest)
unfolding Ascending
forth_from i before s rest e h =
    let a = and_parts (is_utf8 s) _ e in
    let b = and_parts (nat_eq (len_before_zero s) (length s)) _ a.1 in
    (a.0, no_zero s (eqb-true _ _ b.0), b.1, h)

back_from : (i : ℕ) (before s : List ℕ) (rest : List (List ℕ)) → Ascending i before (s ∷ rest) → (can i before s ≡ true)
    × Ascending (i + 1) s rest
unfolding Ascending
back_from i before s rest h = (
  and_from (is_utf8 s) _ h.0 (and_from (nat_eq (len_before_zero s) (length s)) _ (eq-eqb _ _ (zero_none s h.1)) h.2),
  h.3,
)

pub forth : (P : Type 0) (i : ℕ) (before s : List ℕ) (left rest : List (List ℕ)) → left ≡ s ∷ rest
    → can i before s ≡ true → (Ascending i before left → P) → Ascending (i + 1) s rest → P
forth P i before s left rest e test so_far h =
    so_far (subst (Ascending i before) (sym e) (forth_from i before s rest test h))

pub back : (P : Type 0) (i : ℕ) (before s : List ℕ) (left rest : List (List ℕ)) → left ≡ s ∷ rest
    → (P → Ascending i before left) → P → (can i before s ≡ true) × Ascending (i + 1) s rest
back P i before s left rest e so_far h = back_from i before s rest (subst (Ascending i before) e (so_far h))

pub ended : (P : Type 0) (i : ℕ) (before : List ℕ) (left : List (List ℕ)) → left ≡ [] → (Ascending i before left → P)
    → P
unfolding Ascending
ended P i before left e so_far = so_far (subst (Ascending i before) (sym e) tt)
