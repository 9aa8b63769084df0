-- The order of a string and one that shares a prefix with it.
use Rattle.std.proofs.Common.{◌≡◌, ℕ, ◌≤◌, ◌<◌, zero, suc, List, [], ◌∷◌, ◌++◌, length, take, drop, refl, arith, Bool}
use Rattle.std.proofs.Common.{true, false, nat_eq, nat_lt, cond, get_or, Ordering}
use Rattle.std.specs.declared.cmp.Ordering.TheVariants.{Less, Equal, Greater}
use Rattle.std.specs.Ordering.{nat_cmp, ordering_then, is_lt}
use Rattle.std.specs.Cmp.Lexicographic.{slice_cmp}
use Rattle.std.proofs.lemmas.Bool.Decides.{nat_tests}
use Rattle.hdt_front.specs.StringChecks.{precedes}

same : (b : ℕ) → nat_cmp b b ≡ Equal
same b = grind (arith, nat_tests)

pub kept_order : (before text : List ℕ) (k : ℕ) → k ≤ length before → slice_cmp nat_cmp before (take k before ++ text)
    ≡ slice_cmp nat_cmp (drop k before) text
kept_order before text zero h = refl
kept_order [] text (suc k) h = absurd (omega (arith, h))
kept_order (b ∷ before) text (suc k) h = rw (same b) (kept_order before text k (omega (arith, h)))

first_step : (lt eq : Bool) (o : Ordering) → eq ≡ false → is_lt (ordering_then (cond lt Less (cond eq Equal Greater)) o)
    ≡ lt
first_step lt true o e = absurd (cc)
first_step true false o e = refl
first_step false false o e = refl

apart : (x y : ℕ) → (x ≡ y → ⊥) → nat_eq x y ≡ false
apart x y h = grind (arith, nat_tests)

-- Different first bytes decide the order.
pub first_decides : (a b : List ℕ) → 0 < length a → 0 < length b → (get_or a 0 0 ≡ get_or b 0 0 → ⊥)
    → precedes a b ≡ nat_lt (get_or a 0 0) (get_or b 0 0)
first_decides [] b la lb h = absurd (omega (arith, la))
first_decides (x ∷ a) [] la lb h = absurd (omega (arith, lb))
first_decides (x ∷ a) (y ∷ b) la lb h = first_step (nat_lt x y) (nat_eq x y) _ (apart x y h)
