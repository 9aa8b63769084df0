-- Laws of the longest common prefix and of the order of strings. Other crates use them.
use Rattle.std.proofs.Common.{◌≡◌, ℕ, zero, suc, ◌+◌, ◌<◌, ◌≤◌, Bool, true, false, cond, nat_eq, nat_lt, List, [], ◌∷◌}
use Rattle.std.proofs.Common.{length, refl, sym, ap, ◌∙◌, subst, arith, Ordering}
use Rattle.std.specs.declared.cmp.Ordering.TheVariants.{Less, Equal, Greater}
use Rattle.std.specs.Ordering.{ordering_then}
use Rattle.std.proofs.lemmas.Bool.Decides.{nat_tests}
use Rattle.hdt_front.specs.Order.{string_cmp, lcp_len}

abbrev pub both : Bool → Bool → Ordering → Ordering
both lt eq o = ordering_then (cond lt Less (cond eq Equal Greater)) o

-- ---- the longest common prefix

byte_by : (eq : Bool) (b c n k : ℕ) → nat_eq b c ≡ eq → suc k ≤ cond eq (1 + n) 0 → (b ≡ c) × (k ≤ n)
byte_by true b c n k e h = (grind (arith, nat_tests, e), omega (arith, h))
byte_by false b c n k e h = absurd (omega (arith, h))

same_byte : (b c n k : ℕ) → suc k ≤ cond (nat_eq b c) (1 + n) 0 → (b ≡ c) × (k ≤ n)
same_byte b c n k h = byte_by (nat_eq b c) b c n k refl h

pub equal_bytes : (b c : ℕ) → b ≡ c → nat_eq b c ≡ true
equal_bytes b c e = grind (arith, nat_tests, e)

pub lcp_le_flip : (k : ℕ) (x y : List ℕ) → k ≤ lcp_len x y → k ≤ lcp_len y x
lcp_le_flip zero x y h = omega arith
lcp_le_flip (suc k) [] y h = absurd (omega (arith, h))
lcp_le_flip (suc k) (a ∷ x) [] h = absurd (omega (arith, h))
lcp_le_flip (suc k) (a ∷ x) (b ∷ y) h =
    let s = same_byte a b (lcp_len x y) k h in
    omega (arith, lcp_le_flip k x y s.1, ap (λ (t : Bool). cond t (1 + lcp_len y x) 0) (equal_bytes b a (sym s.0)))

-- It is symmetric.
pub lcp_symmetric : (x y : List ℕ) → lcp_len x y ≡ lcp_len y x
lcp_symmetric x y = omega (
  arith,
  lcp_le_flip (lcp_len x y) x y (omega arith),
  lcp_le_flip (lcp_len y x) y x (omega arith),
)

pub lcp_transitive : (k : ℕ) (x y z : List ℕ) → k ≤ lcp_len x y → k ≤ lcp_len y z → k ≤ lcp_len x z
lcp_transitive zero x y z h i = omega arith
lcp_transitive (suc k) [] y z h i = absurd (omega (arith, h))
lcp_transitive (suc k) (a ∷ x) [] z h i = absurd (omega (arith, h))
lcp_transitive (suc k) (a ∷ x) (b ∷ y) [] h i = absurd (omega (arith, i))
lcp_transitive (suc k) (a ∷ x) (b ∷ y) (c ∷ z) h i =
    let s = same_byte a b (lcp_len x y) k h in
    let t = same_byte b c (lcp_len y z) k i in
    omega (
      arith,
      lcp_transitive k x y z s.1 t.1,
      ap (λ (t : Bool). cond t (1 + lcp_len x z) 0) (equal_bytes a c (s.0 ∙ t.0)),
    )

-- That of a string with itself is the string.
pub lcp_itself : (x : List ℕ) → lcp_len x x ≡ length x
lcp_itself [] = refl
lcp_itself (a ∷ x) = omega (arith, lcp_itself x, ap (λ (t : Bool). cond t (1 + lcp_len x x) 0) (equal_bytes a a refl))

-- ---- a string that shares more with the previous one than that shares with x compares with x as the previous one

turn_step : (lt eq : Bool) (o p : Ordering) (n m k : ℕ) → (n < k → (p ≡ o) × (m ≡ n)) → cond eq (1 + n) 0 < suc k
    → (both lt eq p ≡ both lt eq o) × (cond eq (1 + m) 0 ≡ cond eq (1 + n) 0)
turn_step true true o p n m k rest more = let r = rest (omega (arith, more)) in (refl, ap (λ x. 1 + x) r.1)
turn_step true false o p n m k rest more = (refl, refl)
turn_step false true o p n m k rest more = let r = rest (omega (arith, more)) in (r.0, ap (λ x. 1 + x) r.1)
turn_step false false o p n m k rest more = (refl, refl)

pub shared_prefix_left : (k : ℕ) (next last x : List ℕ) → lcp_len last x < k → k ≤ lcp_len next last
    → (string_cmp next x ≡ string_cmp last x) × (lcp_len next x ≡ lcp_len last x)
shared_prefix_left zero next last x more keeps = absurd (omega (arith, more))
shared_prefix_left (suc k) [] last x more keeps = absurd (omega (arith, keeps))
shared_prefix_left (suc k) (a ∷ next) [] x more keeps = absurd (omega (arith, keeps))
shared_prefix_left (suc k) (a ∷ next) (b ∷ last) [] more keeps = (refl, refl)
shared_prefix_left (suc k) (a ∷ next) (b ∷ last) (c ∷ x) more keeps =
    let s = same_byte a b (lcp_len next last) k keeps in
    subst (λ (d : ℕ). (string_cmp (d ∷ next) (c ∷ x) ≡ string_cmp (b ∷ last) (c ∷ x))
    × (lcp_len (d ∷ next) (c ∷ x) ≡ lcp_len (b ∷ last) (c ∷ x))) (sym s.0)
    (turn_step (nat_lt b c) (nat_eq b c) (string_cmp last x) (string_cmp next x) (lcp_len last x) (lcp_len next x) k
    (λ h. shared_prefix_left k next last x h s.1) more)

pub shared_prefix_right : (k : ℕ) (y next last : List ℕ) → lcp_len y last < k → k ≤ lcp_len next last
    → (string_cmp y next ≡ string_cmp y last) × (lcp_len y next ≡ lcp_len y last)
shared_prefix_right zero y next last more keeps = absurd (omega (arith, more))
shared_prefix_right (suc k) y [] last more keeps = absurd (omega (arith, keeps))
shared_prefix_right (suc k) y (a ∷ next) [] more keeps = absurd (omega (arith, keeps))
shared_prefix_right (suc k) [] (a ∷ next) (b ∷ last) more keeps = (refl, refl)
shared_prefix_right (suc k) (c ∷ y) (a ∷ next) (b ∷ last) more keeps =
    let s = same_byte a b (lcp_len next last) k keeps in
    subst (λ (d : ℕ). (string_cmp (c ∷ y) (d ∷ next) ≡ string_cmp (c ∷ y) (b ∷ last))
    × (lcp_len (c ∷ y) (d ∷ next) ≡ lcp_len (c ∷ y) (b ∷ last))) (sym s.0)
    (turn_step (nat_lt c b) (nat_eq c b) (string_cmp y last) (string_cmp y next) (lcp_len y last) (lcp_len y next) k
    (λ h. shared_prefix_right k y next last h s.1) more)
