-- Strings that begin with a prefix, and those before them in ascending strings.
use Rattle.std.proofs.Common.{◌≡◌, ℕ, suc, ◌+◌, ◌-◌, ◌<◌, ◌≤◌, ◌||◌, Bool, true, false, cond, nat_eq, nat_lt}
use Rattle.std.proofs.Common.{List, [], ◌∷◌, ◌++◌, length, take, get_or, refl, sym, ap, ◌∙◌, arith, subst, Ordering}
use Rattle.std.proofs.Common.{inl, inr, ◌⊎◌, Ok}
use Rattle.std.specs.declared.cmp.Ordering.TheVariants.{Less, Equal, Greater}
use Rattle.std.specs.Ordering.{is_lt, is_eq}
use Rattle.std.proofs.lemmas.Bool.Decides.{nat_tests}
use Rattle.hdt_front.specs.Laws.CommonPrefix.{both, shared_prefix_left, equal_bytes}
use Rattle.hdt_front.specs.declared.search.Bound.{Bound}
use Rattle.hdt_front.specs.declared.search.Bound.TheVariants.{Lower, Upper}
use Rattle.hdt_front.specs.Inside.Searching.{IsBefore, IsBoundary, IsPosition, Compares, is_before, is_before_by}
use Rattle.hdt_front.specs.Order.{string_cmp, lcp_len}
use Rattle.hdt_front.specs.Prefixes.{BeginsWith, IsPrefixRange}
use Rattle.hdt_front.proofs.AscendingIds.{Ascends, after}
use Rattle.hdt_front.proofs.LcpOrder.{lcp_at_least_kept, apart}
use Rattle.std.proofs.lemmas.Bool.{cases_lt}
use Rattle.std.proofs.lemmas.Cmp.{nat_list_cmp_total, alike_right}
use Rattle.hdt_wire.specs.Checks.{len_before_zero}
use Rattle.hdt_front.specs.declared.section.Section.{Section}
use Rattle.hdt_front.specs.Strings.{strings_of}
use Rattle.hdt_front.specs.Laws.FrontCodingSteps.{NoZero}
use Rattle.hdt_front.proofs.StringSequence.{zero_none}
use Rattle.hdt_front.proofs.LookupInverse.{string_has_none}
use Rattle.hdt_front.specs.Laws.FrontCoding.{less_from}
use Rattle.hdt_front.specs.Laws.ChecksSound.{take_no_zero}
use Rattle.hdt_front.specs.Laws.ChecksComplete.{or_holds}

eq_is : (b c : ℕ) → nat_eq b c ≡ true → b ≡ c
eq_is b c e = grind (arith, nat_tests, e)

-- ---- a string begins with a prefix if their longest common prefix is the prefix

begins_step : (eq : Bool) (b c n m : ℕ) (s x : List ℕ) → nat_eq b c ≡ eq → (n ≡ m → s ≡ x) → cond eq (1 + n) 0 ≡ suc m
    → b ∷ s ≡ c ∷ x
begins_step true b c n m s x e rest same = let r = rest (omega (arith, same)) in ap (λ a. a ∷ s) (eq_is b c e)
    ∙ ap (λ t. c ∷ t) r
begins_step false b c n m s x e rest same = absurd (omega (arith, same))

pub begins : (s x : List ℕ) → lcp_len s x ≡ length x → BeginsWith x s
begins s [] same = refl
begins [] (c ∷ x) same = absurd (omega (arith, same))
begins (b ∷ s) (c ∷ x) same =
    begins_step (nat_eq b c) b c (lcp_len s x) (length x) (take (length x) s) x refl (λ h. begins s x h) same

first_same : (b c : ℕ) (s x : List ℕ) → b ∷ s ≡ c ∷ x → (b ≡ c) × (s ≡ x)
first_same b c s x e = (cc, cc)

pub shares_all : (s x : List ℕ) → BeginsWith x s → lcp_len s x ≡ length x
shares_all [] [] h = refl
shares_all (b ∷ s) [] h = refl
shares_all [] (c ∷ x) h = absurd (cc)
shares_all (b ∷ s) (c ∷ x) h =
    let e = first_same b c (take (length x) s) x h in
    omega (arith, shares_all s x e.1, ap (λ (t : Bool). cond t (1 + lcp_len s x) 0) (equal_bytes b c e.0))

-- Such a string is not less than the prefix.
not_less_step : (lt eq : Bool) (o : Ordering) (n m : ℕ) → (lt ≡ true → eq ≡ true → ⊥) → (n ≡ m → is_lt o ≡ false)
    → cond eq (1 + n) 0 ≡ suc m → is_lt (both lt eq o) ≡ false
not_less_step true true o n m not_both rest same = absurd (not_both refl refl)
not_less_step false true o n m not_both rest same = rest (omega (arith, same))
not_less_step lt false o n m not_both rest same = absurd (omega (arith, same))

pub not_less : (s x : List ℕ) → lcp_len s x ≡ length x → is_lt (string_cmp s x) ≡ false
not_less [] [] same = refl
not_less (b ∷ s) [] same = refl
not_less [] (c ∷ x) same = absurd (omega (arith, same))
not_less (b ∷ s) (c ∷ x) same =
    not_less_step (nat_lt b c) (nat_eq b c) (string_cmp s x) (lcp_len s x) (length x) (apart b c)
    (λ h. not_less s x h) same

-- ---- what is less than a string that is before, is before

same_tests : (n m : ℕ) → nat_eq n m ≡ nat_eq (1 + n) (suc m)
same_tests n m = grind (arith, nat_tests)

less_step : (lt eq : Bool) (o p : Ordering) (n m : ℕ) → (lt ≡ true → eq ≡ true → ⊥)
    → (o ≡ Less → is_before_by Upper m p n ≡ true) → both lt eq o ≡ Less
    → is_before_by Upper (suc m) (both lt eq p) (cond eq (1 + n) 0) ≡ true
less_step true true o p n m not_both rest less = absurd (not_both refl refl)
less_step true false o p n m not_both rest less = refl
less_step false true o p n m not_both rest less = ap (λ (t : Bool). is_lt p || t) (sym (same_tests n m)) ∙ rest less
less_step false false o p n m not_both rest less = absurd (cc)

lcp_first : (eq : Bool) (a c n m : ℕ) → nat_eq a c ≡ eq → cond eq (1 + n) 0 ≡ suc m → (a ≡ c) × (n ≡ m)
lcp_first true a c n m e same = (eq_is a c e, omega (arith, same))
lcp_first false a c n m e same = absurd (omega (arith, same))

less_than_begins : (s t x : List ℕ) → string_cmp s t ≡ Less → lcp_len t x ≡ length x → is_before Upper x s ≡ true
unfolding is_before
less_than_begins [] t [] less same = refl
less_than_begins (b ∷ s) t [] less same = refl
less_than_begins [] t (c ∷ x) less same = refl
less_than_begins (b ∷ s) [] (c ∷ x) less same = absurd (cc)
less_than_begins (b ∷ s) (a ∷ t) (c ∷ x) less same =
    let e = lcp_first (nat_eq a c) a c (lcp_len t x) (length x) refl same in
    less_step (nat_lt b c) (nat_eq b c) (string_cmp s t) (string_cmp s x) (lcp_len s x) (length x) (apart b c)
    (λ h. less_than_begins s t x h e.1)
    (subst (λ (d : ℕ). both (nat_lt b d) (nat_eq b d) (string_cmp s t) ≡ Less) e.0 less)

or_cases : (a b : Bool) → (a || b) ≡ true → (a ≡ true) ⊎ (b ≡ true)
or_cases true b e = inl refl
or_cases false b e = inr e

less_is_before : (bound : Bound) (len lcp : ℕ) → is_before_by bound len Less lcp ≡ true
less_is_before Lower len lcp = refl
less_is_before Upper len lcp = refl

less_before : (bound : Bound) (x s : List ℕ) → string_cmp s x ≡ Less → is_before bound x s ≡ true
unfolding is_before
less_before bound x s e = ap (λ (o : Ordering). is_before_by bound (length x) o (lcp_len s x)) e ∙ less_is_before bound
    (length x) (lcp_len s x)

downward : (bound : Bound) (x s t : List ℕ) → string_cmp s t ≡ Less → is_before bound x t ≡ true
    → is_before bound x s ≡ true
unfolding is_before
downward Lower x s t less before =
    less_before Lower x s (nat_list_cmp_total.trans s t x less (less_from (string_cmp t x) before))
downward Upper x s t less before = elim (or_cases (is_lt (string_cmp t x)) (nat_eq (lcp_len t x) (length x)) before) [
  | inl lt ↦ less_before Upper x s (nat_list_cmp_total.trans s t x less (less_from (string_cmp t x) lt))
  | inr same ↦ less_than_begins s t x less (eq_is (lcp_len t x) (length x) same)
]

-- ---- the strings before a boundary

earlier_or : (i n : ℕ) → i < n → (i < n - 1) ⊎ (i ≡ n - 1)
earlier_or i n h = grind arith

later_or : (i n : ℕ) → n ≤ i → (n < i) ⊎ (i ≡ n)
later_or i n h = grind arith

is_false : (b : Bool) → (b ≡ true → ⊥) → b ≡ false
is_false true h = absurd (h refl)
is_false false h = refl

not_true : (b : Bool) → b ≡ false → b ≡ true → ⊥
not_true true e f = cc
not_true false e f = cc

pub first_before : (bound : Bound) (x : List ℕ) (xs : List (List ℕ)) (n i : ℕ) → Ascends xs → IsBoundary bound x xs n
    → i < n → is_before bound x (get_or xs i []) ≡ true
first_before bound x xs n i a b h = elim (earlier_or i n h) [
  | inl lt ↦ downward bound x (get_or xs i []) (get_or xs (n - 1) [])
      (after xs i (n - 1) a lt (omega (arith, h, b.within))) (b.last (omega (arith, h)))
  | inr same ↦ ap (λ k. is_before bound x (get_or xs k [])) same ∙ b.last (omega (arith, h))
]

pub rest_not_before : (bound : Bound) (x : List ℕ) (xs : List (List ℕ)) (n i : ℕ) → Ascends xs → IsBoundary bound x xs n
    → n ≤ i → i < length xs → is_before bound x (get_or xs i []) ≡ false
rest_not_before bound x xs n i a b h k = elim (later_or i n h) [
  | inl lt ↦ is_false (is_before bound x (get_or xs i [])) (λ before.
      not_true (is_before bound x (get_or xs n [])) (b.next (omega (arith, lt, k)))
      (downward bound x (get_or xs n []) (get_or xs i []) (after xs n i a lt k) before))
  | inr same ↦ ap (λ m. is_before bound x (get_or xs m [])) same ∙ b.next (omega (arith, same, k))
]

-- ---- the range between two boundaries

both_false : (lt e : Bool) → lt ≡ false → (lt || e) ≡ true → e ≡ true
both_false true e f t = absurd (cc)
both_false false e f t = t

is_begun : (x s : List ℕ) → is_before Lower x s ≡ false → is_before Upper x s ≡ true → BeginsWith x s
unfolding is_before
is_begun x s low high = begins s x
    (eq_is (lcp_len s x) (length x) (both_false (is_lt (string_cmp s x)) (nat_eq (lcp_len s x) (length x)) low high))

begun_not_before : (x s : List ℕ) → BeginsWith x s → is_before Lower x s ≡ false
unfolding is_before
begun_not_before x s h = not_less s x (shares_all s x h)

begun_before : (x s : List ℕ) → BeginsWith x s → is_before Upper x s ≡ true
unfolding is_before
begun_before x s h = or_holds (is_lt (string_cmp s x)) (nat_eq (lcp_len s x) (length x))
    (equal_bytes (lcp_len s x) (length x) (shares_all s x h))

before_weaker : (x s : List ℕ) → is_before Lower x s ≡ true → is_before Upper x s ≡ true
unfolding is_before
before_weaker x s t = ap (λ (lt : Bool). lt || nat_eq (lcp_len s x) (length x)) t

not_lt : (m n : ℕ) → (n < m → ⊥) → m ≤ n
not_lt m n h = elim (cases_lt n m) [
  | inl lt ↦ absurd (h lt)
  | inr ge ↦ ge
]

pub between : (x : List ℕ) (xs : List (List ℕ)) (m n : ℕ) → Ascends xs → IsBoundary Lower x xs m
    → IsBoundary Upper x xs n → IsPrefixRange xs x (m + 1) (n + 1)
between x xs m n a low high = record {
  some = omega arith;
  ordered = omega (
    arith,
    not_lt m n (λ h.
        not_true (is_before Upper x (get_or xs n [])) (high.next (omega (arith, h, low.within)))
        (before_weaker x (get_or xs n []) (first_before Lower x xs m n a low h))),
  );
  within = omega (arith, high.within);
  inside = λ k h i.
      is_begun x (get_or xs (k - 1) [])
      (rest_not_before Lower x xs m (k - 1) a low (omega (arith, h)) (omega (arith, h, i, high.within)))
      (first_before Upper x xs n (k - 1) a high (omega (arith, h, i)));
  all = λ k h i b. (
    let l : m ≤ k - 1 = not_lt m (k - 1)
        (λ lt. not_true (is_before Lower x (get_or xs (k - 1) [])) (begun_not_before x (get_or xs (k - 1) []) b)
        (first_before Lower x xs m (k - 1) a low lt)) in omega (arith, l, h),
    let u : k - 1 < n = below_by (k - 1) n
        (λ ge. not_true (is_before Upper x (get_or xs (k - 1) []))
        (rest_not_before Upper x xs n (k - 1) a high ge (omega (arith, h, i)))
        (begun_before x (get_or xs (k - 1) []) b))
        in omega (arith, u, h),
  );
}
  where
    below_by : (i n : ℕ) → (n ≤ i → ⊥) → i < n
    below_by i n h = elim (cases_lt i n) [
      | inl lt ↦ lt
      | inr ge ↦ absurd (h ge)
    ]

-- ---- no string has a zero byte

pub none_begins : (s : Section) (x : List ℕ) → len_before_zero x < length x → IsPrefixRange (strings_of s) x 1 1
none_begins s x has_zero = record {
  some = omega arith;
  ordered = omega arith;
  within = omega arith;
  inside = λ n h i. absurd (omega (arith, h, i));
  all = λ n h i b.
      absurd (omega (
        arith,
        has_zero,
        zero_none x (subst NoZero b
            (take_no_zero (length x) (get_or (strings_of s) (n - 1) [])
            (string_has_none s (n - 1) (omega (arith, h, i))))),
      ));
}

-- ---- one string after another in a block

-- A string that shares more with the last one than that shares with the searched one is before if the last one is.
pub kept_before : (bound : Bound) (x last text : List ℕ) (k same : ℕ) → k ≤ length last → same < k
    → IsBefore bound last x same → IsBefore bound (take k last ++ text) x same
unfolding is_before
kept_before bound x last text k same fits more h =
    let r = shared_prefix_left k (take k last ++ text) last x (omega (arith, more, h.same))
    (lcp_at_least_kept k last text fits) in
    record {
      before = ap (λ (o : Ordering). is_before_by bound (length x) o (lcp_len (take k last ++ text) x)) r.0
          ∙ ap (λ (l : ℕ). is_before_by bound (length x) (string_cmp last x) l) r.1 ∙ h.before;
      same = r.1 ∙ h.same;
    }

-- A whole string, by its order and its longest common prefix.
pub by_parts : (bound : Bound) (x s : List ℕ) (o : Ordering) (l : ℕ) → o ≡ string_cmp s x → l ≡ lcp_len s x
    → is_before bound x s ≡ is_before_by bound (length x) o l
unfolding is_before
by_parts bound x s o l order same =
    ap (λ (p : Ordering). is_before_by bound (length x) p (lcp_len s x)) (sym order)
    ∙ ap (λ (n : ℕ). is_before_by bound (length x) o n) (sym same)

-- How it compares if it is not before.
equal_of : (o : Ordering) → is_eq o ≡ true → o ≡ Equal
equal_of Less e = absurd (cc)
equal_of Equal e = refl
equal_of Greater e = absurd (cc)

greater_of : (bound : Bound) (len : ℕ) (o : Ordering) (lcp : ℕ) → is_before_by bound len o lcp ≡ false
    → is_eq o ≡ false → o ≡ Greater
greater_of bound len Less lcp h e = let t = less_is_before bound len lcp in absurd (cc)
greater_of bound len Equal lcp h e = absurd (cc)
greater_of bound len Greater lcp h e = refl

pub compares : (bound : Bound) (x s : List ℕ) (o : Ordering) (l : ℕ) → o ≡ string_cmp s x → l ≡ lcp_len s x
    → is_before_by bound (length x) o l ≡ false
    → (is_eq o ≡ true → Compares bound s x Equal) × (is_eq o ≡ false → Compares bound s x Greater)
compares bound x s o l order same h =
    let none = by_parts bound x s o l order same ∙ h in
    (λ e. (none, sym order ∙ equal_of o e), λ e. (none, sym order ∙ greater_of bound (length x) o l h e))

-- ---- the position of a string

pub less_than : (x s : List ℕ) → is_before Lower x s ≡ true → string_cmp s x ≡ Less
unfolding is_before
less_than x s h = less_from (string_cmp s x) h

-- If the string at a position equals the searched one, those before the position are less.
pub boundary_at : (bound : Bound) (x : List ℕ) (xs : List (List ℕ)) (n : ℕ) → Ascends xs → IsPosition bound xs x (Ok n)
    → IsBoundary bound x xs n
boundary_at bound x xs n a h = record {
  within = omega (arith, h.0);
  last = λ some. less_before bound x (get_or xs (n - 1) [])
      (sym (alike_right nat_list_cmp_total (get_or xs n []) x (get_or xs (n - 1) []) h.1.1)
      ∙ after xs (n - 1) n a (omega (arith, some)) h.0);
  next = λ _. h.1.0;
}

-- ---- no strings

pub none_there : (xs : List (List ℕ)) (x : List ℕ) → length xs ≡ 0 → IsPrefixRange xs x 1 1
none_there xs x none = record {
  some = omega arith;
  ordered = omega arith;
  within = omega arith;
  inside = λ n h i. absurd (omega (arith, h, i));
  all = λ n h i b. absurd (omega (arith, h, i, none));
}
