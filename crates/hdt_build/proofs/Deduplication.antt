-- Dropping duplicates of sorted strings, and the new indices of the strings.
use Rattle.std.proofs.Common.{◌≡◌, ◌∙◌, ℕ, ◌+◌, ◌-◌, ◌<◌, ◌≤◌, List, [], ◌∷◌, ◌++◌, length, get_or, set, refl, ap, sym}
use Rattle.std.proofs.Common.{subst, inl, inr, arith}
use Rattle.std.specs.declared.cmp.Ordering.TheVariants.{Less}
use Rattle.std.specs.Ordering.{ordering_reverse}
use Rattle.std.specs.Cmp.Lexicographic.{nat_list_cmp_total}
use Rattle.std.proofs.lemmas.Bool.{cases_lt, cases_eq}
use Rattle.std.proofs.lemmas.List.{get_or-map, length-map, length-set, length_push, get_or_append_left, get_or_push}
use Rattle.std.proofs.lemmas.List.{get_or-set_same, get_or-set_other}
use Rattle.std.proofs.lemmas.Map.Keys.{Less-from_sorted, sorted_from_all_adjacent}
use Rattle.hdt_front.specs.Order.{IsAscending, string_cmp}
use Rattle.hdt_build.specs.Inside.SortedEntries.{KeyedIndex, AreEntriesOf, AreIndicesOf, IsPushedOnce, IsLast}
use Rattle.hdt_build.specs.Inside.SortedEntries.{IsLessThanLast, NeverDescends, entry_index, entry_strings, last_of}

-- x is the string of ys at index v
abbrev pub IsAt : List (List ℕ) → List ℕ → ℕ → Type 0
IsAt ys x v = (v < length ys) × (get_or ys v [] ≡ x)

-- the strings and the indices of the first i entries
pub record AreListed (xs : List (List ℕ)) (ps : List KeyedIndex) (i : ℕ) (ys : List (List ℕ))
    (ns : List ℕ) : Type 0 where
  pub long : length ns ≡ length xs
  pub ascend : IsAscending ys
  pub some : 0 < length ys → 0 < i
  pub last : 0 < i → IsLast ys (get_or xs (entry_index ps (i - 1)) [])
  pub each : (n : ℕ) → n < i → IsAt ys (get_or xs (entry_index ps n) []) (get_or ns (entry_index ps n) 0)

pub none_listed : (xs : List (List ℕ)) (ps : List KeyedIndex) (ns : List ℕ) → length ns ≡ length xs
    → AreListed xs ps 0 [] ns
none_listed xs ps ns long = record {
  long = long;
  ascend = sorted_from_all_adjacent nat_list_cmp_total [] [] (λ k lt. absurd (omega (arith, lt)));
  some = λ lt. absurd (omega (arith, lt));
  last = λ lt. absurd (omega (arith, lt));
  each = λ n lt. absurd (omega (arith, lt));
}

-- ascending strings, and one that is greater than the last
pub ascends_on : (ys : List (List ℕ)) (x : List ℕ) → IsAscending ys → (0 < length ys → string_cmp (last_of ys) x ≡ Less)
    → IsAscending (ys ++ x ∷ [])
ascends_on ys x up below = sorted_from_all_adjacent nat_list_cmp_total (ys ++ x ∷ []) [] (λ k lt.
    elim (cases_lt (k + 1) (length ys)) [
      | inl inside ↦ rw (
        get_or_append_left ys (x ∷ []) [] k (omega (arith, inside)),
        get_or_append_left ys (x ∷ []) [] (k + 1) inside,
      )
          (Less-from_sorted string_cmp ys k (k + 1) [] up (omega arith) inside)
      | inr end ↦
          let at : length ys ≡ k + 1 = omega (arith, lt, end, length_push ys x) in
          let last : length ys - 1 ≡ k = omega (arith, at) in
          rw (
            get_or_append_left ys (x ∷ []) [] k (omega (arith, at)),
            get_or_push ys x [] (k + 1) at,
          )
          (subst (λ (j : ℕ). string_cmp (get_or ys j []) x ≡ Less) last (below (omega (arith, at))))
    ])

-- a string is the last one now
pub record IsLastNow (ys : List (List ℕ)) (x : List ℕ) (zs : List (List ℕ)) : Type 0 where
  pub ascend : IsAscending zs
  pub kept : (n : ℕ) → n < length ys → IsAt zs (get_or ys n []) n
  pub last : IsLast zs x

pub pushed_once : (ys : List (List ℕ)) (x : List ℕ) (zs : List (List ℕ)) (v : ℕ) → IsAscending ys
    → IsPushedOnce ys x zs → v + 1 ≡ length zs → IsLastNow ys x zs
pushed_once ys x zs v up (inl again) at =
    subst (λ (l : List (List ℕ)). IsLastNow ys x l) (sym again.0)
    (record { ascend = up; kept = λ n lt. (lt, refl); last = again.1 })
pushed_once ys x zs v up (inr new) at =
    subst (λ (l : List (List ℕ)). IsLastNow ys x l) (sym new.0) (record {
      ascend = ascends_on ys x up
          (λ some. nat_list_cmp_total.antisymm (last_of ys) x ∙ ap ordering_reverse (new.1 some));
      kept = λ n lt. (omega (arith, lt, length_push ys x), get_or_append_left ys (x ∷ []) [] n lt);
      last = (
        omega (arith, length_push ys x),
        get_or_push ys x [] (length (ys ++ x ∷ []) - 1) (omega (arith, length_push ys x)),
      );
    })

-- one more entry, whose string is the last one of zs
module _ (xs : List (List ℕ)) (ps : List KeyedIndex) (placed : AreEntriesOf xs ps) (i : ℕ) (in' : i
    < length ps) (ys : List (List ℕ)) (ns : List ℕ) (h : AreListed xs ps i ys ns) where
  abbrev pub x : List ℕ
  x = get_or xs (entry_index ps i) []

  -- if it is less than the last one, the strings of the entries descend
  pub descends : IsLessThanLast ys x → NeverDescends (entry_strings xs ps) → ⊥
  descends less never =
      let text = λ (p : KeyedIndex). get_or xs p.1 [] in
      let some = h.some less.0 in
      let previous : i - 1 < length ps = omega (arith, in') in
      let least = rw (
        get_or-map text ps i (0, 0) [] in',
        get_or-map text ps (i - 1) (0, 0) [] previous,
      ) at
      (never (i - 1) i (omega arith) (omega (arith, in', length-map ps text))) in
      least (rw (h.last some).1 at less.1)

  listed_by : (zs : List (List ℕ)) (v : ℕ) → IsAscending zs → ((n : ℕ) → n < length ys → IsAt zs (get_or ys n []) n)
      → IsLast zs x → v + 1 ≡ length zs → AreListed xs ps (i + 1) zs (set ns (entry_index ps i) v)
  listed_by zs v up kept last at =
      let here : length zs - 1 ≡ v = omega (arith, at) in
      let is : IsAt zs x v = (omega (arith, at), subst (λ (j : ℕ). get_or zs j [] ≡ x) here last.1) in
      let inside : entry_index ps i < length ns = omega (arith, placed.within i in', h.long) in
      record {
        long = length-set ns (entry_index ps i) v ∙ h.long;
        ascend = up;
        some = λ _. omega arith;
        last = λ _. let e : i + 1 - 1 ≡ i = omega arith in
            subst (λ (j : ℕ). IsLast zs (get_or xs (entry_index ps j) [])) (sym e) last;
        each = λ n lt. elim (cases_eq (entry_index ps n) (entry_index ps i)) as
            (λ _. IsAt zs (get_or xs (entry_index ps n) [])
            (get_or (set ns (entry_index ps i) v) (entry_index ps n) 0)) [
              | inl same ↦ rw (same, get_or-set_same ns (entry_index ps i) v 0 inside) is
              | inr apart ↦
                  let earlier : n < i = elim (cases_lt n i) as (λ _. n < i) [
                    | inl lt ↦ lt
                    | inr le ↦ let e : n ≡ i =
                        omega (arith, lt, le) in absurd (apart (ap (entry_index ps) e))
                  ] in
                  let old = h.each n earlier in
                  let new = kept (get_or ns (entry_index ps n) 0) old.0 in
                  rw (get_or-set_other ns (entry_index ps i) (entry_index ps n) v 0 apart) (new.0, new.1 ∙ old.1)
            ];
      }

  pub listed_more : (zs : List (List ℕ)) (v : ℕ) → IsPushedOnce ys x zs → v + 1 ≡ length zs
      → AreListed xs ps (i + 1) zs (set ns (entry_index ps i) v)
  listed_more zs v once at =
      let p = pushed_once ys x zs v h.ascend once at in
      listed_by zs v p.ascend p.kept p.last at

-- after all entries, each string of the list has its index
pub all_listed : (xs : List (List ℕ)) (ps : List KeyedIndex) → AreEntriesOf xs ps
    → (ys : List (List ℕ)) (ns : List ℕ) (i : ℕ) → length ps ≤ i → AreListed xs ps i ys ns → AreIndicesOf xs ys ns
all_listed xs ps placed ys ns i end h = record {
  long = h.long;
  within = λ k lt. (at k lt).0;
  is = λ k lt. (at k lt).1;
}
  where
    at : (k : ℕ) → k < length xs → IsAt ys (get_or xs k []) (get_or ns k 0)
    at k lt = let r = placed.every k lt in
        subst (λ (j : ℕ). IsAt ys (get_or xs j []) (get_or ns j 0)) r.2 (h.each r.0 (omega (arith, r.1, end)))
