-- The IDs of the strings that begin with a prefix, in one list and in two.
use Rattle.std.proofs.Common.{◌≡◌, ℕ, zero, suc, ◌+◌, ◌-◌, ◌<◌, ◌≤◌, ◌++◌, List, [], length, length-append, get_or}
use Rattle.std.proofs.Common.{Option, Some, None, refl, sym, arith, subst, inl, inr, ◌⊎◌, ◌↔◌}
use Rattle.std.specs.Prelude.{slice_get}
use Rattle.std.proofs.lemmas.Bool.{cases_lt}
use Rattle.std.proofs.lemmas.List.{get_or_append_left, get_or-append-add}
use Rattle.std.proofs.lemmas.Option.{slice_get_within, slice_get-get_or, get_or_from_slice_get}
use Rattle.hdt_front.specs.Prefixes.{BeginsWith, IsPrefixRange}
use Rattle.hdt_dict.specs.Ids.{string_at_id}
use Rattle.hdt_dict.specs.Prefixes.{SomeBeginsWith}

-- the string with ID n begins with the prefix
record BeginsAt (xs : List (List ℕ)) (prefix : List ℕ) (n : ℕ) : Type 0 where
  pub some : 1 ≤ n
  pub within : n ≤ length xs
  pub begins : BeginsWith prefix (get_or xs (n - 1) [])

to_string : (xs : List (List ℕ)) (prefix : List ℕ) (n : ℕ) → BeginsAt xs prefix n
    → SomeBeginsWith prefix (string_at_id xs n)
to_string xs prefix zero h = absurd (omega (arith, h.some))
to_string xs prefix (suc i) h =
    let back : suc i - 1 ≡ i = omega arith in
    subst (SomeBeginsWith prefix) (sym (slice_get-get_or xs i [] (omega (arith, h.within))))
    (subst (λ (k : ℕ). BeginsWith prefix (get_or xs k [])) back h.begins)

from_string_by : (xs : List (List ℕ)) (prefix : List ℕ) (i : ℕ) (r : Option (List ℕ)) → slice_get xs i ≡ r
    → SomeBeginsWith prefix r → BeginsAt xs prefix (suc i)
from_string_by xs prefix i None e h = absurd h
from_string_by xs prefix i (Some x) e h =
    let back : i ≡ suc i - 1 = omega arith in
    record {
      some = omega arith;
      within = omega (arith, slice_get_within xs i x e);
      begins = subst (λ (k : ℕ). BeginsWith prefix (get_or xs k [])) back
          (subst (BeginsWith prefix) (sym (get_or_from_slice_get xs i x [] e)) h);
    }

from_string : (xs : List (List ℕ)) (prefix : List ℕ) (n : ℕ) → SomeBeginsWith prefix (string_at_id xs n)
    → BeginsAt xs prefix n
from_string xs prefix zero h = absurd h
from_string xs prefix (suc i) h = from_string_by xs prefix i (slice_get xs i) refl h

-- ---- one list

pub one : (xs : List (List ℕ)) (prefix : List ℕ) (s e n : ℕ) → IsPrefixRange xs prefix s e
    → (((s ≤ n) × (n < e)) ⊎ ((e ≤ n) × (n < e))) ↔ SomeBeginsWith prefix (string_at_id xs n)
one xs prefix s e n r = (to, λ h. let b = from_string xs prefix n h in inl (r.all n b.some b.within b.begins))
  where
    to : ((s ≤ n) × (n < e)) ⊎ ((e ≤ n) × (n < e)) → SomeBeginsWith prefix (string_at_id xs n)
    to (inl h) = to_string xs prefix n
        (record {
          some = omega (arith, r.some, h.0);
          within = omega (arith, r.within, h.1);
          begins =
              r.inside n h.0 h.1;
        })
    to (inr h) = absurd (omega (arith, h.0, h.1))

-- ---- two lists

two_to : (xs ys : List (List ℕ)) (prefix : List ℕ) (s e t f n : ℕ) → IsPrefixRange xs prefix s e
    → IsPrefixRange ys prefix t f
    → ((s ≤ n) × (n < e)) ⊎ ((length xs + t ≤ n) × (n < length xs + f))
    → SomeBeginsWith prefix (string_at_id (xs ++ ys) n)
two_to xs ys prefix s e t f n r q (inl h) =
    let long = length-append xs ys in
    to_string (xs ++ ys) prefix n (record {
      some = omega (arith, r.some, h.0);
      within = omega (arith, r.within, h.1, long);
      begins = subst (BeginsWith prefix)
          (sym (get_or_append_left xs ys [] (n - 1) (omega (arith, r.some, r.within, h.0, h.1)))) (r.inside n h.0 h.1);
    })
two_to xs ys prefix s e t f n r q (inr h) =
    let long = length-append xs ys in
    let at : length xs + (n - length xs - 1) ≡ n - 1 = omega (arith, q.some, h.0) in
    to_string (xs ++ ys) prefix n (record {
      some = omega (arith, q.some, h.0);
      within = omega (arith, q.within, h.1, long);
      begins = subst (λ (k : ℕ). BeginsWith prefix (get_or (xs ++ ys) k [])) at
          (subst (BeginsWith prefix) (sym (get_or-append-add xs ys (n - length xs - 1) []))
          (q.inside (n - length xs) (omega (arith, h.0)) (omega (arith, h.0, h.1, q.some))));
    })

two_from : (xs ys : List (List ℕ)) (prefix : List ℕ) (s e t f n : ℕ) → IsPrefixRange xs prefix s e
    → IsPrefixRange ys prefix t f
    → SomeBeginsWith prefix (string_at_id (xs ++ ys) n) → ((s ≤ n) × (n < e))
    ⊎ ((length xs + t ≤ n) × (n < length xs + f))
two_from xs ys prefix s e t f n r q h =
    let b = from_string (xs ++ ys) prefix n h in
    let long = length-append xs ys in
    elim (cases_lt (length xs) n) [
      | inl lt ↦
          let at : n - 1 ≡ length xs + (n - length xs - 1) = omega (arith, lt) in
          let begins : BeginsWith prefix (get_or ys (n - length xs - 1) []) =
          subst (BeginsWith prefix) (get_or-append-add xs ys (n - length xs - 1) [])
          (subst (λ (k : ℕ). BeginsWith prefix (get_or (xs ++ ys) k [])) at b.begins) in
          let in_range = q.all (n - length xs) (omega (arith, lt)) (omega (arith, b.within, long)) begins in
          inr (omega (arith, in_range.0, lt), omega (arith, in_range.1, lt))
      | inr ge ↦
          inl (r.all n b.some ge (subst (BeginsWith prefix)
          (get_or_append_left xs ys [] (n - 1) (omega (arith, b.some, ge))) b.begins))
    ]

pub two : (xs ys : List (List ℕ)) (prefix : List ℕ) (s e t f n k : ℕ) → k ≡ length xs → IsPrefixRange xs prefix s e
    → IsPrefixRange ys prefix t f
    → (((s ≤ n) × (n < e)) ⊎ ((k + t ≤ n) × (n < k + f))) ↔ SomeBeginsWith prefix (string_at_id (xs ++ ys) n)
two xs ys prefix s e t f n k same r q =
    subst (λ (m : ℕ). (((s ≤ n) × (n < e)) ⊎ ((m + t ≤ n) × (n < m + f)))
    ↔ SomeBeginsWith prefix (string_at_id (xs ++ ys) n)) (sym same)
    (two_to xs ys prefix s e t f n r q, two_from xs ys prefix s e t f n r q)
