-- Common prefixes.
use Rattle.std.proofs.Common.{◌≡◌, ℕ, zero, suc, ◌+◌, ◌≤◌, Bool, true, false, cond, nat_eq, List, [], ◌∷◌, take}
use Rattle.std.proofs.Common.{refl, arith}
use Rattle.std.proofs.lemmas.Bool.Decides.{nat_tests}
use Rattle.hdt_front.specs.Order.{lcp_len}

equal_by : (eq : Bool) (b c n k : ℕ) → nat_eq b c ≡ eq → suc k ≤ cond eq (1 + n) 0 → (b ≡ c) × (k ≤ n)
equal_by true b c n k e h = (grind (arith, nat_tests, e), omega (arith, h))
equal_by false b c n k e h = absurd (omega (arith, h))

-- strings are equal up to the length of a common prefix
pub equal_up_to : (k : ℕ) (x y : List ℕ) → k ≤ lcp_len x y → take k x ≡ take k y
equal_up_to zero x y h = refl
equal_up_to (suc k) [] y h = absurd (omega (arith, h))
equal_up_to (suc k) (b ∷ x) [] h = absurd (omega (arith, h))
equal_up_to (suc k) (b ∷ x) (c ∷ y) h =
    let s = equal_by (nat_eq b c) b c (lcp_len x y) k refl h in
    let rest = equal_up_to k x y s.1 in
    let same : b ≡ c = s.0 in
    λ i. same i ∷ rest i
