-- The common prefix of a searched string with a string between two others.
use Rattle.std.proofs.Common.{◌≡◌, ℕ, zero, suc, ◌+◌, ◌-◌, ◌*◌, ◌<◌, ◌≤◌, min, List, [], ◌∷◌, length, get_or, refl}
use Rattle.std.proofs.Common.{arith, Bool, true, false, nat_eq, nat_lt, cond, Ordering, inl, inr, ◌⊎◌}
use Rattle.std.proofs.Math.Nat.{mul-le-mul_left}
use Rattle.std.proofs.lemmas.Bool.Decides.{nat_tests}
use Rattle.std.specs.declared.cmp.Ordering.TheVariants.{Less}
use Rattle.std.specs.Ordering.{ord_min, nat_cmp}
use Rattle.hdt_front.specs.Order.{string_cmp, lcp_len}
use Rattle.hdt_front.specs.Strings.{strings_of, blocks_of}
use Rattle.hdt_front.specs.PackedView.{block_layout}
use Rattle.hdt_front.specs.Laws.StringSteps.{length-decoded_strings}
use Rattle.hdt_front.specs.declared.section.Section.{Section}
use Rattle.hdt_front.proofs.AscendingIds.{Ascends, after}
use Rattle.hdt_front.proofs.CheckedBlocks.{some_block, head_inside, ascends}
use Rattle.hdt_front.specs.Laws.CommonPrefix.{both}

between_step : (pq rq sq lt1 eq1 lt2 eq2 : Bool) (o1 o2 : Ordering) (n m t k : ℕ)
    → (pq ≡ true → rq ≡ true → lt1 ≡ true → lt2 ≡ true → ⊥)
    → (pq ≡ true → rq ≡ true → lt1 ≡ true → eq2 ≡ true → ⊥)
    → (pq ≡ true → rq ≡ true → eq1 ≡ true → lt2 ≡ true → ⊥)
    → (pq ≡ true → eq1 ≡ true → sq ≡ false → ⊥)
    → (o1 ≡ Less → o2 ≡ Less → k ≤ n → k ≤ m → k ≤ t)
    → suc k ≤ cond pq (1 + n) 0 → suc k ≤ cond rq (1 + m) 0 → both lt1 eq1 o1 ≡ Less → both lt2 eq2 o2 ≡ Less
    → suc k ≤ cond sq (1 + t) 0
between_step false rq sq lt1 eq1 lt2 eq2 o1 o2 n m t k f g h i rest a c l u = absurd (omega (arith, a))
between_step true false sq lt1 eq1 lt2 eq2 o1 o2 n m t k f g h i rest a c l u = absurd (omega (arith, c))
between_step true true sq true eq1 true eq2 o1 o2 n m t k f g h i rest a c l u = absurd (f refl refl refl refl)
between_step true true sq true eq1 false true o1 o2 n m t k f g h i rest a c l u = absurd (g refl refl refl refl)
between_step true true sq true eq1 false false o1 o2 n m t k f g h i rest a c l u = absurd (cc)
between_step true true sq false false lt2 eq2 o1 o2 n m t k f g h i rest a c l u = absurd (cc)
between_step true true sq false true true eq2 o1 o2 n m t k f g h i rest a c l u = absurd (h refl refl refl refl)
between_step true true sq false true false false o1 o2 n m t k f g h i rest a c l u = absurd (cc)
between_step true true false false true false true o1 o2 n m t k f g h i rest a c l u = absurd (i refl refl refl)
between_step true true true false true false true o1 o2 n m t k f g h i rest a c l u =
    omega (arith, rest l u (omega (arith, a)) (omega (arith, c)))

over : (p q r s : ℕ) → nat_eq p q ≡ true → nat_eq r q ≡ true → nat_lt p s ≡ true → nat_lt s r ≡ true → ⊥
over p q r s a b c d = grind (arith, nat_tests)

over_same : (p q r s : ℕ) → nat_eq p q ≡ true → nat_eq r q ≡ true → nat_lt p s ≡ true → nat_eq s r ≡ true → ⊥
over_same p q r s a b c d = grind (arith, nat_tests)

same_over : (p q r s : ℕ) → nat_eq p q ≡ true → nat_eq r q ≡ true → nat_eq p s ≡ true → nat_lt s r ≡ true → ⊥
same_over p q r s a b c d = grind (arith, nat_tests)

same_same : (p q s : ℕ) → nat_eq p q ≡ true → nat_eq p s ≡ true → nat_eq s q ≡ false → ⊥
same_same p q s a b c = grind (arith, nat_tests)

-- A string between two others shares with the searched one at least what both of them do.
between : (k : ℕ) (a b c x : List ℕ) → string_cmp a b ≡ Less → string_cmp b c ≡ Less → k ≤ lcp_len a x → k ≤ lcp_len c x
    → k ≤ lcp_len b x
between zero a b c x l u h i = omega arith
between (suc k) [] b c x l u h i = absurd (omega (arith, h))
between (suc k) (p ∷ a) b c [] l u h i = absurd (omega (arith, h))
between (suc k) (p ∷ a) b [] (q ∷ x) l u h i = absurd (omega (arith, i))
between (suc k) (p ∷ a) [] (r ∷ c) (q ∷ x) l u h i = absurd (cc)
between (suc k) (p ∷ a) (s ∷ b) (r ∷ c) (q ∷ x) l u h i =
    between_step (nat_eq p q) (nat_eq r q) (nat_eq s q) (nat_lt p s) (nat_eq p s) (nat_lt s r) (nat_eq s r)
    (string_cmp a b) (string_cmp b c) (lcp_len a x) (lcp_len c x) (lcp_len b x) k
    (over p q r s) (over_same p q r s) (same_over p q r s) (same_same p q s) (between k a b c x) h i l u

strings_between : (xs : List (List ℕ)) (x : List ℕ) (i j m k : ℕ) → Ascends xs → i < m → m < j → j < length xs
    → k ≤ lcp_len (get_or xs i []) x → k ≤ lcp_len (get_or xs j []) x → k ≤ lcp_len (get_or xs m []) x
strings_between xs x i j m k a low high inside h g =
    between k (get_or xs i []) (get_or xs m []) (get_or xs j []) x (after xs i m a low (omega (arith, high, inside)))
    (after xs m j a high inside) h g

pub least : (a b : ℕ) → ord_min nat_cmp a b ≡ min a b
least a b = grind (arith, nat_tests)

none_or_some : (n : ℕ) → (n ≡ 0) ⊎ (0 < n)
none_or_some n = grind arith

-- The same for the first strings of blocks during the binary search. A bound that was not compared yet counts as
-- sharing nothing.
pub heads_between : (s : Section) (x : List ℕ) (low middle high same above : ℕ) → low ≤ middle → middle < high
    → high ≤ blocks_of s
    → (0 < same → 0 < low) → (0 < low → lcp_len (get_or (strings_of s) ((low - 1) * s.packed.block_size) []) x ≡ same)
    → (0 < above → high < blocks_of s)
    → (0 < above → lcp_len (get_or (strings_of s) (high * s.packed.block_size) []) x ≡ above)
    → min same above ≤ lcp_len (get_or (strings_of s) (middle * s.packed.block_size) []) x
unfolding strings_of blocks_of
heads_between s x low middle high same above after_low before_high inside some_low is_low some_high is_above =
    elim (none_or_some (min same above)) [
      | inl none ↦ omega (arith, none)
      | inr some ↦
          let p = s.packed in
          let first : 0 < low = some_low (omega (arith, some)) in
          let last : high < blocks_of s = some_high (omega (arith, some)) in
          let block : 1 ≤ p.block_size = some_block p.count p.block_size high last in
          let end : high * p.block_size < p.count = head_inside p.count p.block_size high block last in
          let many = length-decoded_strings p.block_size p.count 0 [] p.bytes.now in
          let low_is : (low - 1) * p.block_size + p.block_size ≤ middle * p.block_size =
          omega (
            arith,
            mul-le-mul_left p.block_size (let k : low - 1 + 1 ≤ middle = omega (arith, first, after_low) in
                k),
          ) in
          let high_is : middle * p.block_size + p.block_size ≤ high * p.block_size =
          omega (arith, mul-le-mul_left p.block_size (let k : middle + 1 ≤ high = omega (arith, before_high) in k)) in
          strings_between (strings_of s) x ((low - 1) * p.block_size) (high * p.block_size) (middle * p.block_size)
          (min same above) (ascends (block_layout p) p.count p.bytes.now s.read)
          (omega (arith, block, low_is)) (omega (arith, block, high_is)) (omega (arith, many, end))
          (omega (arith, is_low first)) (omega (arith, is_above (omega (arith, some))))
    ]
