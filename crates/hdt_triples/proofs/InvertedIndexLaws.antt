-- The list of one key in an inverted index.
use Rattle.std.proofs.Common.{◌≡◌, ◌≢◌, ◌⊎◌, inl, inr, ℕ, ◌+◌, ◌-◌, ◌<◌, ◌≤◌, ◌==◌, zero, suc, List, [], ◌∷◌, length}
use Rattle.std.proofs.Common.{drop, slice_index, filter, refl, ap, sym, ◌∙◌, arith, Bool, true, false, cond, subst}
use Rattle.std.proofs.Common.{eq-or-lt_of_le}
use Rattle.std.proofs.lemmas.Bool.{ne_eqb, cases_lt, eqb-true, eqb-false}
use Rattle.std.proofs.lemmas.List.{drop_more}
use Rattle.std.specs.List.{All, range_with_len, slice_range}
use Rattle.std.proofs.lemmas.List.Elements.{All-from_get_or}
use Rattle.hdt_triples.specs.TripleSequences.{AreAscendingGroups}
use Rattle.hdt_triples.specs.InvertedIndex.{IsListKey, positions_of, positions_from, IsInvertedIndex, AreListBounds}
use Rattle.hdt_triples.proofs.KeyCountLaws.{below_mono, below_le}
use Rattle.hdt_triples.proofs.ScanLaws.{range_none}

pub parts_of_lists : (xs : List ℕ) (greatest : ℕ) (starts flat : List ℕ) → IsInvertedIndex xs greatest starts flat
    → AreListBounds starts flat
parts_of_lists xs greatest starts flat l = record {
  ordered = λ k h. omega (
    arith,
    l.begins k (omega (arith, h, l.starts_len)),
    l.begins (k + 1) (omega (arith, h, l.starts_len)),
    below_mono xs (k + 1) (k + 1 + 1) (omega arith),
  );
  within = λ k h. omega (arith, l.begins k (omega (arith, h, l.starts_len)), l.flat_len, below_le xs (k + 1));
}

-- Numbers in ascending groups are keys.
pub keys_of : (marks : List Bool) (xs : List ℕ) (count : ℕ) → AreAscendingGroups marks xs count
    → All (IsListKey count) xs
keys_of marks xs count g = All-from_get_or (IsListKey count) xs 0 (λ i h. (g.from i h, g.to i h))

-- A key that doesn't occur has no positions.
none_kept : (n : ℕ) (xs : List ℕ) (k a : ℕ) → ((i : ℕ) → a ≤ i → i < a + n → slice_index xs i ≢ k)
    → filter (λ i. slice_index xs i == k) (range_with_len a n) ≡ []
none_kept zero xs k a none = refl
none_kept (suc n) xs k a none =
    ap (λ b. cond b (a ∷ filter (λ i. slice_index xs i == k) (range_with_len (a + 1) n))
    (filter (λ i. slice_index xs i == k) (range_with_len (a + 1) n)))
    (ne_eqb (slice_index xs a) k (none a (omega arith) (omega arith)))
    ∙ none_kept n xs k (a + 1) (λ i l w. none i (omega (arith, l)) (omega (arith, w)))

pub no_key : (xs : List ℕ) (greatest k : ℕ) → All (IsListKey greatest) xs → (k ≡ 0) ⊎ (greatest < k)
    → positions_of xs k ≡ []
no_key xs greatest k keys (inl e) =
    none_kept (length xs) xs k 0 (λ i l w same. omega (arith, same, e, (keys i 0 (omega (arith, w))).0))
no_key xs greatest k keys (inr h) =
    none_kept (length xs) xs k 0 (λ i l w same. omega (arith, same, h, (keys i 0 (omega (arith, w))).1))

pub key_part : (xs : List ℕ) (greatest k : ℕ) (starts flat : List ℕ) → IsInvertedIndex xs greatest starts flat → 1 ≤ k
    → k ≤ greatest
    → slice_range flat (slice_index starts (k - 1)) (slice_index starts k) ≡ positions_of xs k
key_part xs greatest k starts flat l low high =
    let e : k - 1 + 1 ≡ k = omega (arith, low) in
    ap (λ m. slice_range flat (slice_index starts (k - 1)) (slice_index starts m)) (sym e)
    ∙ l.places (k - 1) (omega (arith, low, high)) ∙ ap (positions_of xs) e

pub positions_from_start : (xs : List ℕ) (k : ℕ) → positions_of xs k ≡ positions_from xs k 0
positions_from_start xs k =
    ap (λ n. filter (λ i. slice_index xs i == k) (range_with_len 0 n)) (let e : length xs ≡ length xs - 0 =
    omega arith in e)

-- The first position from a on, and those after it.
pub record IsFirstPosition (xs : List ℕ) (k a q : ℕ) (qs : List ℕ) : Type 0 where
  pub from : a ≤ q
  pub within : q < length xs
  pub key : slice_index xs q ≡ k
  pub before : (i : ℕ) → a ≤ i → i < q → slice_index xs i ≢ k
  pub behind : qs ≡ positions_from xs k (q + 1)

abbrev kept_from : List ℕ → ℕ → ℕ → ℕ → List ℕ
kept_from xs k a n = filter (λ i. slice_index xs i == k) (range_with_len a n)

not_yet : (xs : List ℕ) (k a i : ℕ) → slice_index xs a ≢ k → (a ≡ i) ⊎ (a < i) → (a + 1 ≤ i → slice_index xs i ≢ k)
    → slice_index xs i ≢ k
not_yet xs k a i ne (inl e) later = subst (λ j. slice_index xs j ≢ k) e ne
not_yet xs k a i ne (inr h) later = later (omega (arith, h))

-- The first position, by whether index a has the key.
first_by : (n : ℕ) (xs : List ℕ) (k a q : ℕ) (qs : List ℕ) (b : Bool) → a + suc n ≡ length xs
    → (slice_index xs a == k) ≡ b
    → ((q ∷ qs ≡ kept_from xs k (a + 1) n) → IsFirstPosition xs k (a + 1) q qs)
    → q ∷ qs ≡ cond b (a ∷ kept_from xs k (a + 1) n) (kept_from xs k (a + 1) n) → IsFirstPosition xs k a q qs
first_by n xs k a q qs true len test later is =
    let first : q ≡ a = cc in
    let rest : qs ≡ kept_from xs k (a + 1) n = cc in
    let count : n ≡ length xs - (q + 1) = omega (arith, len, first) in
    record {
      from = omega (arith, first);
      within = omega (arith, first, len);
      key = ap (slice_index xs) first ∙ eqb-true (slice_index xs a) k test;
      before = λ i l w. absurd (omega (arith, first, l, w));
      behind = rest ∙ ap (λ m. kept_from xs k (m + 1) n) (sym first) ∙ ap (kept_from xs k (q + 1)) count;
    }
first_by n xs k a q qs false len test later is =
    let f = later is in
    let ne : slice_index xs a ≢ k = eqb-false (slice_index xs a) k test in
    record {
      from = omega (arith, f.from);
      within = f.within;
      key = f.key;
      before = λ i l w. not_yet xs k a i ne (eq-or-lt_of_le l) (λ h. f.before i h w);
      behind = f.behind;
    }

first_place_of : (n : ℕ) (xs : List ℕ) (k a q : ℕ) (qs : List ℕ) → a + n ≡ length xs → q ∷ qs ≡ kept_from xs k a n
    → IsFirstPosition xs k a q qs
first_place_of zero xs k a q qs len is = absurd (cc)
first_place_of (suc n) xs k a q qs len is =
    first_by n xs k a q qs (slice_index xs a == k) len refl
    (λ h. first_place_of n xs k (a + 1) q qs (omega (arith, len)) h) is

first_cases : (xs : List ℕ) (k a q : ℕ) (qs : List ℕ) → q ∷ qs ≡ positions_from xs k a → (a < length xs)
    ⊎ (length xs ≤ a) → IsFirstPosition xs k a q qs
first_cases xs k a q qs is (inl h) = first_place_of (length xs - a) xs k a q qs (omega (arith, h)) is
first_cases xs k a q qs is (inr h) = let none : positions_from xs k a ≡ [] =
    ap (filter (λ i. slice_index xs i == k)) (range_none a (length xs) h) in absurd (cc)

pub first_position : (xs : List ℕ) (k a q : ℕ) (qs : List ℕ) → q ∷ qs ≡ positions_from xs k a
    → IsFirstPosition xs k a q qs
first_position xs k a q qs is = first_cases xs k a q qs is (cases_lt a (length xs))

-- There is no position from a on.
none_by : (n : ℕ) (xs : List ℕ) (k a : ℕ) (b : Bool) → (slice_index xs a == k) ≡ b
    → ([] ≡ kept_from xs k (a + 1) n → (i : ℕ) → a + 1 ≤ i → i < a + 1 + n → slice_index xs i ≢ k)
    → [] ≡ cond b (a ∷ kept_from xs k (a + 1) n) (kept_from xs k (a + 1) n) → (i : ℕ) → a ≤ i → i < a + suc n
    → slice_index xs i ≢ k
none_by n xs k a true test later is = absurd (cc)
none_by n xs k a false test later is = λ i l w.
    not_yet xs k a i (eqb-false (slice_index xs a) k test) (eq-or-lt_of_le l) (λ h. later is i h (omega (arith, w)))

none_of : (n : ℕ) (xs : List ℕ) (k a : ℕ) → [] ≡ kept_from xs k a n → (i : ℕ) → a ≤ i → i < a + n → slice_index xs i ≢ k
none_of zero xs k a is i l w = absurd (omega (arith, l, w))
none_of (suc n) xs k a is i l w = none_by n xs k a (slice_index xs a == k) refl (none_of n xs k (a + 1)) is i l w

pub no_position : (xs : List ℕ) (k a : ℕ) → [] ≡ positions_from xs k a → (i : ℕ) → a ≤ i → i < length xs
    → slice_index xs i ≢ k
no_position xs k a is i l w = none_of (length xs - a) xs k a is i l (omega (arith, l, w))

-- A non-empty list is its first element and the rest.
rest_first : (rest : List ℕ) → 0 < length rest → rest ≡ slice_index rest 0 ∷ drop 1 rest
rest_first rest h = drop_more rest 0 0 h

pub split_rest : (rest js : List ℕ) (at : ℕ) → 0 < length rest → at ≡ slice_index rest 0 → js ≡ drop 1 rest
    → rest ≡ at ∷ js
split_rest rest js at h first behind = rest_first rest h ∙ ap (λ j. j ∷ drop 1 rest) (sym first)
    ∙ ap (λ xs. at ∷ xs) (sym behind)
