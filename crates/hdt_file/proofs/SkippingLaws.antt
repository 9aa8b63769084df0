-- Skipping matches.
use Rattle.std.proofs.Common.{◌≡◌, ◌≢◌, ◌⊎◌, ◌&&◌, ℕ, ◌+◌, ◌-◌, ◌≤◌, ◌<◌, zero, suc, List, [], ◌∷◌, Bool, true, false}
use Rattle.std.proofs.Common.{cond, Option, Some, None, filter, length, drop, inl, inr, refl, ap, sym, ◌∙◌, subst}
use Rattle.std.proofs.Common.{arith, eq-eqb, eqb}
use Rattle.std.proofs.lemmas.Bool.{and_left, and_right, and_parts, and_from, eqb-true, ne_eqb}
use Rattle.std.proofs.lemmas.List.{drop-drop, drop_all, drop_more}
use Rattle.std.proofs.lemmas.Option.{none-some}
use Rattle.hdt_triples.specs.declared.pattern.Pattern.{Pattern}
use Rattle.hdt_triples.specs.TripleSequences.{Triple}
use Rattle.hdt_triples.specs.Order.{AreAscending, TripleLess, nth_triple}
use Rattle.hdt_triples.specs.Patterns.{admits, agrees, matches}
use Rattle.hdt_file.specs.Paging.{HasConsecutiveMatches, IsNextMatch}

-- Dropping the first elements of a list, one by one.
pub drop_one : {X : Type 0} (n : ℕ) (x : X) (xs : List X) → n ≢ 0 → drop n (x ∷ xs) ≡ drop (n - 1) xs
drop_one zero x xs some = absurd (some refl)
drop_one (suc n) x xs some = ap (λ k. drop k xs) (omega arith)

-- ---- the triples from one on ascend

ascend_after : (x : Triple) (xs : List Triple) → AreAscending (x ∷ xs) → AreAscending xs
ascend_after x xs h = λ i lt.
    let next : suc (i + 1) ≡ suc i + 1 = omega arith in
    subst (λ (j : ℕ). TripleLess (nth_triple xs i) (nth_triple (x ∷ xs) j)) (sym next) (h (suc i) (omega (arith, lt)))

ascend_from : (n : ℕ) (xs : List Triple) → AreAscending xs → AreAscending (drop n xs)
ascend_from zero xs h = h
ascend_from (suc n) [] h = h
ascend_from (suc n) (x ∷ xs) h = ascend_from n xs (ascend_after x xs h)

first_less : (x y : Triple) (ys : List Triple) → AreAscending (x ∷ y ∷ ys) → TripleLess x y
first_less x y ys h = h 0 (omega arith)

-- ---- a run of triples that are kept, in a list that ascends: after it come those that are past it

module _ (keep : Triple → Bool) (Past : Triple → Type 0)
    (out : (x : Triple) → Past x → keep x ≡ false)
    (past : (x y : Triple) → TripleLess x y → Past x → Past y)
    (next : (x y : Triple) → TripleLess x y → keep x ≡ true → (keep y ≡ true) ⊎ Past y) where
  nothing_dropped : (n : ℕ) → drop n (filter keep []) ≡ []
  nothing_dropped n = drop_all n [] (omega arith)

  without : (x : Triple) (xs : List Triple) (b : Bool) → b ≡ false → filter keep xs ≡ []
      → cond b (x ∷ filter keep xs) (filter keep xs) ≡ []
  without x xs b is rest = ap (λ c. cond c (x ∷ filter keep xs) (filter keep xs)) is ∙ rest

  none_left : (x : Triple) (xs : List Triple) → AreAscending (x ∷ xs) → Past x → (n : ℕ)
      → filter keep (drop n (x ∷ xs)) ≡ []
  none_left x [] h p zero = without x [] (keep x) (out x p) refl
  none_left x [] h p (suc n) = ap (filter keep) (nothing_dropped n)
  none_left x (y ∷ ys) h p zero =
      without x (y ∷ ys) (keep x) (out x p)
      (none_left y ys (ascend_after x (y ∷ ys) h) (past x y (first_less x y ys h) p) 0)
  none_left x (y ∷ ys) h p (suc n) = none_left y ys (ascend_after x (y ∷ ys) h) (past x y (first_less x y ys h) p) n

  with_first : (x : Triple) (xs : List Triple) (n : ℕ) → keep x ≡ true
      → drop n (filter keep xs) ≡ drop (suc n) (filter keep (x ∷ xs))
  with_first x xs n is = sym (ap (λ b. drop (suc n) (cond b (x ∷ filter keep xs) (filter keep xs))) is)

  pub drop_run : (x : Triple) (xs : List Triple) → AreAscending (x ∷ xs) → keep x ≡ true → (n : ℕ)
      → filter keep (drop n (x ∷ xs)) ≡ drop n (filter keep (x ∷ xs))
  drop_run x xs h is zero = refl
  drop_run x [] h is (suc n) = ap (filter keep) (nothing_dropped n) ∙ sym (nothing_dropped n) ∙ with_first x [] n is
  drop_run x (y ∷ ys) h is (suc n) =
      by (next x y (first_less x y ys h) is) (λ own. drop_run y ys (ascend_after x (y ∷ ys) h) own n)
      ∙ with_first x (y ∷ ys) n is
    where
      by : (keep y ≡ true) ⊎ Past y → (keep y ≡ true → filter keep (drop n (y ∷ ys)) ≡ drop n (filter keep (y ∷ ys)))
          → filter keep (drop n (y ∷ ys)) ≡ drop n (filter keep (y ∷ ys))
      by (inl own) same = same own
      by (inr p) same =
          let none = none_left y ys (ascend_after x (y ∷ ys) h) p in
          none n ∙ sym (nothing_dropped n) ∙ sym (ap (drop n) (none 0))

-- ---- patterns whose matches are such a run

-- The triple is past those of a subject, or of a subject and a predicate.
abbrev IsPast : Option ℕ → Option ℕ → Triple → Type 0
IsPast None p t = ⊥
IsPast (Some s) None t = s < t.0
IsPast (Some s) (Some q) t = (s < t.0) ⊎ ((s ≡ t.0) × (q < t.1))

abbrev keeps : Option ℕ → Option ℕ → Triple → Bool
keeps s p t = admits s t.0 && admits p t.1 && true

-- Neither a subject nor a predicate, or a subject.
abbrev IsRun : Option ℕ → Option ℕ → Type 0
IsRun s p = s ≡ None → p ≡ None

is_out : (s p : Option ℕ) (x : Triple) → IsPast s p x → keeps s p x ≡ false
is_out None p x h = absurd h
is_out (Some s) None x h =
    and_left (eqb s x.0 && true) true (and_left (eqb s x.0) true (ne_eqb s x.0 (λ e. omega (arith, e, h))))
is_out (Some s) (Some q) x (inl h) =
    and_left (eqb s x.0 && eqb q x.1) true (and_left (eqb s x.0) (eqb q x.1) (ne_eqb s x.0 (λ e. omega (arith, e, h))))
is_out (Some s) (Some q) x (inr h) =
    and_left (eqb s x.0 && eqb q x.1) true
    (and_right (eqb s x.0) (eqb q x.1) (ne_eqb q x.1 (λ e. omega (arith, e, h.1))))

is_past : (s p : Option ℕ) (x y : Triple) → TripleLess x y → IsPast s p x → IsPast s p y
is_past None p x y less h = absurd h
is_past (Some s) None x y (inl less) h = omega (arith, less, h)
is_past (Some s) None x y (inr less) h = omega (arith, less.0, h)
is_past (Some s) (Some q) x y (inl less) (inl h) = inl (omega (arith, less, h))
is_past (Some s) (Some q) x y (inl less) (inr h) = inl (omega (arith, less, h.0))
is_past (Some s) (Some q) x y (inr less) (inl h) = inl (omega (arith, less.0, h))
is_past (Some s) (Some q) x y (inr (same, inl less)) (inr h) = inr (omega (arith, same, h.0), omega (arith, less, h.1))
is_past (Some s) (Some q) x y (inr (same, inr less)) (inr h) =
    inr (omega (arith, same, h.0), omega (arith, less.0, h.1))

is_next : (s p : Option ℕ) → IsRun s p → (x y : Triple) → TripleLess x y → keeps s p x ≡ true → (keeps s p y ≡ true)
    ⊎ IsPast s p y
is_next None None run x y less is = inl refl
is_next None (Some q) run x y less is = absurd (none-some q (sym (run refl)))
is_next (Some s) None run x y less is =
    by less (eqb-true s x.0 (and_parts (eqb s x.0) true (and_parts (eqb s x.0 && true) true is).0).0)
  where
    by : TripleLess x y → s ≡ x.0 → (keeps (Some s) None y ≡ true) ⊎ IsPast (Some s) None y
    by (inl up) e = inr (omega (arith, up, e))
    by (inr same) e = inl (and_from (eqb s y.0 && true) true
        (and_from (eqb s y.0) true (eq-eqb s y.0 (omega (arith, same.0, e))) refl) refl)
is_next (Some s) (Some q) run x y less is =
    let both = and_parts (eqb s x.0) (eqb q x.1) (and_parts (eqb s x.0 && eqb q x.1) true is).0 in
    by less (eqb-true s x.0 both.0) (eqb-true q x.1 both.1)
  where
    by : TripleLess x y → s ≡ x.0 → q ≡ x.1 → (keeps (Some s) (Some q) y ≡ true) ⊎ IsPast (Some s) (Some q) y
    by (inl up) e f = inr (inl (omega (arith, up, e)))
    by (inr (same, inl up)) e f = inr (inr (omega (arith, same, e), omega (arith, up, f)))
    by (inr (same, inr less)) e f =
        inl (and_from (eqb s y.0 && eqb q y.1) true
        (and_from (eqb s y.0) (eqb q y.1) (eq-eqb s y.0 (omega (arith, same, e)))
        (eq-eqb q y.1 (omega (arith, less.0, f)))) refl)

-- After the first match, as many matches are skipped as triples.
pub skip_consecutive : (ts : List Triple) (pattern : Pattern) → HasConsecutiveMatches pattern → AreAscending ts
    → (first skip : ℕ) → IsNextMatch ts pattern 0 0 first
    → matches pattern (drop (first + skip) ts) ≡ drop skip (matches pattern ts)
unfolding matches
skip_consecutive ts pattern run ascend first skip is =
    let keep : Triple → Bool = agrees pattern in
    let x = nth_triple ts first in
    let xs = drop (first + 1) ts in
    let more : drop first ts ≡ x ∷ xs = drop_more ts first (0, 0, 0) is.within in
    let kept : (t : Triple) → keep t ≡ keeps pattern.s pattern.p t =
    λ t. ap (λ o. admits pattern.s t.0 && admits pattern.p t.1 && admits o t.2) run.object in
    let dropped : filter keep (drop skip (x ∷ xs)) ≡ drop skip (filter keep (x ∷ xs)) =
    drop_run keep (IsPast pattern.s pattern.p)
    (λ t h. kept t ∙ is_out pattern.s pattern.p t h)
    (is_past pattern.s pattern.p)
    (λ t u less h. same_next t u (kept u) (is_next pattern.s pattern.p run.predicate t u less (sym (kept t) ∙ h)))
    x xs (subst AreAscending more (ascend_from first ts ascend)) is.is skip in
    ap (filter keep) (sym (drop-drop skip first ts)) ∙ ap (λ us. filter keep (drop skip us)) more ∙ dropped
    ∙ ap (λ us. drop skip (filter keep us)) (sym more) ∙ ap (drop skip) is.rest
  where
    same_next : (t u : Triple) → agrees pattern u ≡ keeps pattern.s pattern.p u → (keeps pattern.s pattern.p u ≡ true)
        ⊎ IsPast pattern.s pattern.p u → (agrees pattern u ≡ true) ⊎ IsPast pattern.s pattern.p u
    same_next t u e (inl h) = inl (e ∙ h)
    same_next t u e (inr h) = inr h

-- After the last triple there is no match.
none_after_last : (ts : List Triple) (pattern : Pattern) (n : ℕ) → length ts ≤ n → matches pattern (drop n ts) ≡ []
unfolding matches
none_after_last ts pattern n past = ap (filter (agrees pattern)) (drop_all n ts past)

-- Without matches none is left,
pub skip_none : (ts : List Triple) (pattern : Pattern) (len skip : ℕ) → len ≡ length ts → matches pattern ts ≡ []
    → matches pattern (drop len ts) ≡ drop skip (matches pattern ts)
skip_none ts pattern len skip is none = none_after_last ts pattern len (omega (arith, is))
    ∙ sym (drop_all skip [] (omega arith)) ∙ sym (ap (drop skip) none)

-- nor if as many are skipped as there are triples.
pub skip_all : (ts : List Triple) (pattern : Pattern) → HasConsecutiveMatches pattern → AreAscending ts
    → (len first skip : ℕ) → len ≡ length ts → IsNextMatch ts pattern 0 0 first → len - first ≤ skip
    → matches pattern (drop len ts) ≡ drop skip (matches pattern ts)
skip_all ts pattern run ascend len first skip size is past =
    none_after_last ts pattern len (omega (arith, size))
    ∙ sym (none_after_last ts pattern (first + skip) (omega (arith, size, past, is.within)))
    ∙ skip_consecutive ts pattern run ascend first skip is
