-- Merging ascending runs: the strings in order, and the rank of each.
use Rattle.std.proofs.Common.{◌≡◌, ◌∙◌, ◌⊎◌, inl, inr, ℕ, ◌+◌, ◌-◌, ◌<◌, List, [], length, get_or, set, sym, subst}
use Rattle.std.proofs.Common.{arith}
use Rattle.std.proofs.lemmas.Bool.{cases_eq}
use Rattle.std.proofs.lemmas.List.{length-set, get_or-set_same, get_or-set_other}
use Rattle.std.proofs.lemmas.Map.Keys.{sorted_from_all_adjacent}
use Rattle.std.specs.Cmp.Lexicographic.{nat_list_cmp_total}
use Rattle.hdt_front.specs.Order.{IsAscending}
use Rattle.hdt_build.specs.Inside.SortedEntries.{IsPushedOnce, unranked}
use Rattle.hdt_build.proofs.Deduplication.{IsAt, pushed_once}

-- ys ascend, and each string of xs is the one of ys at its rank, or has none
pub record AreRanked (xs ys : List (List ℕ)) (ns : List ℕ) : Type 0 where
  pub long : length ns ≡ length xs
  pub ascend : IsAscending ys
  pub each : (k : ℕ) → k < length xs → (get_or ns k 0 ≡ unranked) ⊎ IsAt ys (get_or xs k []) (get_or ns k 0)

pub none_ranked : (xs : List (List ℕ)) (ns : List ℕ) → length ns ≡ length xs
    → ((k : ℕ) → k < length xs → get_or ns k 0 ≡ unranked) → AreRanked xs [] ns
none_ranked xs ns long none = record {
  long = long;
  ascend = sorted_from_all_adjacent nat_list_cmp_total [] [] (λ k lt. absurd (omega (arith, lt)));
  each = λ k lt. inl (none k lt);
}

-- the string at an index has a rank now
pub one_ranked : (xs ys : List (List ℕ)) (ns : List ℕ) → AreRanked xs ys ns → (at : ℕ) (x : List ℕ)
    (zs : List (List ℕ)) (v : ℕ) → at < length xs → get_or xs at [] ≡ x → IsPushedOnce ys x zs → v + 1 ≡ length zs
    → AreRanked xs zs (set ns at v)
one_ranked xs ys ns h at x zs v lt is once long =
    let p = pushed_once ys x zs v h.ascend once long in
    let here : length zs - 1 ≡ v = omega (arith, long) in
    let last : IsAt zs x v =
    (omega (arith, long), subst (λ (j : ℕ). get_or zs j [] ≡ x) here p.last.1) in
    record {
      long = length-set ns at v ∙ h.long;
      ascend = p.ascend;
      each = λ k below. elim (cases_eq k at) as
          (λ _. (get_or (set ns at v) k 0 ≡ unranked) ⊎ IsAt zs (get_or xs k []) (get_or (set ns at v) k 0)) [
            | inl same ↦ inr
                (rw (same, get_or-set_same ns at v 0 (omega (arith, lt, h.long))) (last.0, last.1 ∙ sym is))
            | inr apart ↦ rw (get_or-set_other ns at k v 0 apart) (elim (h.each k below) [
              | inl none ↦ inl none
              | inr old ↦ let new = p.kept (get_or ns k 0) old.0 in inr (new.0, new.1 ∙ old.1)
            ])
          ];
    }
