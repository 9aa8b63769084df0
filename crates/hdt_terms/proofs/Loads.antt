-- From the mask of one load to the bytes that pass a test.
use Rattle.std.proofs.Common.{◌≡◌, ℕ, ◌+◌, ◌-◌, ◌%◌, ◌^◌, ◌≤◌, Bool, true, not, List, map, length, get_or, Fits, w8}
use Rattle.std.proofs.Common.{sym, ap, ◌∙◌, arith, inl, inr}
use Rattle.std.proofs.lemmas.Bool.{agree_below, agree_below_at, cases_eq, eq-eqb, ne_eqb, cond-true, cond-false}
use Rattle.std.proofs.lemmas.Simd.{map-map, mask_l-mod, length-chunk, get_or-chunk, leading_from_mask_l}
use Rattle.std.proofs.lemmas.Simd.{trailing_mask_l}
use Rattle.std.proofs.lemmas.List.{length-map}
use Rattle.std.proofs.lemmas.List.Sums.{prefix_len-le-length, prefix_len_passes, prefix_len_stops}
use Rattle.std.specs.List.{prefix_len}
use lib.Lanes.{chunk, mask_l, top}
use Rattle.hdt_wire.specs.Masks.{first_set}
use Rattle.hdt_terms.specs.Inside.ByteRuns.{IsRunOfBytes}

run_is : (p : ℕ → Bool) (v : List ℕ) (n : ℕ) → length v ≡ n → n ≤ 64
    → first_set (mask_l (map p v)) n ≡ prefix_len (λ x. not (p x)) v
run_is p v n long few =
    elim (cases_eq (mask_l (map p v)) 0) [
      | inl none ↦ cond-true _ _ _ (eq-eqb _ _ none) ∙ sym (leading_from_mask_l p v none ∙ long)
      | inr some ↦ cond-false _ _ _ (ne_eqb _ _ some) ∙ trailing_mask_l p 64 v (omega arith) (omega arith)
    ]

-- z has one lane for each loaded byte; a byte passes if and only if the top bit of its lane is clear
pub run_of : (test : ℕ → Bool) (d : List ℕ) (i n r : ℕ) (z : List ℕ) → i + n ≤ length d → n ≤ 64
    → ((k : ℕ) → Fits w8 (get_or d k 0))
    → r ≡ first_set (mask_l (map (top 7) z) % 2 ^ 64) n → (f : ℕ → ℕ) → z ≡ map f (chunk i n d)
    → agree_below (λ x. not (top 7 (f x))) test 256 ≡ true → IsRunOfBytes test d i n r
run_of test d i n r z room few fits found f lanes all =
    let v = chunk i n d in
    let long = length-chunk i n d room in
    let p = λ (x : ℕ). top 7 (f x) in
    let clear = λ (x : ℕ). not (p x) in
    let mask = ap (λ l. mask_l l % 2 ^ 64) (ap (map (top 7)) lanes ∙ map-map (top 7) f v)
    ∙ mask_l-mod (map p v) 64 (omega (arith, length-map v p)) in
    let counted : r ≡ prefix_len clear v = found ∙ ap (λ m. first_set m n) mask ∙ run_is p v n long few in
    let bound = prefix_len-le-length clear v in
    let same = λ (k : ℕ). agree_below_at clear test 256 (get_or d k 0) all (fits k).fits in
    record {
      within = omega arith;
      pass = λ k from to.
          let back : i + (k - i) ≡ k = omega arith in
          let at = get_or-chunk i n d (k - i) 0 (omega arith) ∙ ap (λ j. get_or d j 0) back in
          sym (same k) ∙ ap clear (sym at) ∙ prefix_len_passes clear v (k - i) 0 (omega arith);
      stop = λ less.
          let at = ap (λ j. get_or v j 0) counted ∙ get_or-chunk i n d (prefix_len clear v) 0 (omega arith)
          ∙ ap (λ j. get_or d (i + j) 0) (sym counted) in
          sym (same (i + r)) ∙ ap clear (sym at) ∙ ap (λ j. clear (get_or v j 0)) counted
          ∙ prefix_len_stops clear v 0 (omega arith);
    }
