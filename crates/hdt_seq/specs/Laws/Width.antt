-- Laws of the number of binary digits, and of the greatest entry.
use Rattle.std.proofs.Common.{◌≡◌, ℕ, zero, suc, ◌+◌, ◌-◌, ◌*◌, ◌/◌, ◌^◌, ◌<◌, ◌≤◌, max, List, [], ◌∷◌, get_or, refl}
use Rattle.std.proofs.Common.{ap, sym, ◌∙◌, arith, add-one, suc-le-suc, inl, inr}
use Rattle.std.specs.Prelude.{fold}
use Rattle.std.proofs.Math.Nat.{pow-suc, pow-le-pow_right}
use Rattle.std.proofs.lemmas.Bool.{cases_lt}
use Rattle.std.specs.Int.Count.{count_leading_zeros, leading_unique}
use Rattle.hdt_seq.specs.Width.{halvings, digits, greatest, width_of}

-- ---- digits

-- a limit above the number changes nothing
halvings_enough : (f g n : ℕ) → n ≤ f → n ≤ g → halvings f n ≡ halvings g n
unfolding halvings
halvings_enough zero zero n h k = refl
halvings_enough zero (suc g) zero h k = refl
halvings_enough zero (suc g) (suc n) h k = absurd (omega (arith, h))
halvings_enough (suc f) zero zero h k = refl
halvings_enough (suc f) zero (suc n) h k = absurd (omega (arith, k))
halvings_enough (suc f) (suc g) zero h k = refl
halvings_enough (suc f) (suc g) (suc n) h k = ap suc (halvings_enough f g (suc n / 2) (omega arith) (omega arith))

halvings_mono : (f a b : ℕ) → a ≤ b → halvings f a ≤ halvings f b
unfolding halvings
halvings_mono zero a b h = omega arith
halvings_mono (suc f) zero b h = omega arith
halvings_mono (suc f) (suc a) zero h = absurd (omega (arith, h))
halvings_mono (suc f) (suc a) (suc b) h = suc-le-suc (halvings_mono f (suc a / 2) (suc b / 2) (omega arith))

halvings_fit : (f n : ℕ) → n ≤ f → n < 2 ^ halvings f n
unfolding halvings
halvings_fit zero n h = omega (arith, h)
halvings_fit (suc f) zero h = omega arith
halvings_fit (suc f) (suc n) h =
    omega (arith, halvings_fit f (suc n / 2) (omega arith), pow-suc 2 (halvings f (suc n / 2)))

halvings_reached : (f n : ℕ) → n ≤ f → 2 ^ halvings f n ≤ max 1 (2 * n)
unfolding halvings
halvings_reached zero n h = omega (arith, h)
halvings_reached (suc f) zero h = omega arith
halvings_reached (suc f) (suc n) h =
    omega (arith, halvings_reached f (suc n / 2) (omega arith), pow-suc 2 (halvings f (suc n / 2)))

-- a positive number has one digit more than its half
pub digits_half : (n : ℕ) → 0 < n → digits n ≡ digits (n / 2) + 1
unfolding digits halvings
digits_half zero h = absurd (omega (arith, h))
digits_half (suc n) h = ap suc (halvings_enough n (suc n / 2) (suc n / 2) (omega arith) (omega arith))
    ∙ sym (add-one (halvings (suc n / 2) (suc n / 2)))

pub digits_mono : (a b : ℕ) → a ≤ b → digits a ≤ digits b
unfolding digits
digits_mono a b h = omega (arith, halvings_mono b a b h, halvings_enough a b a (omega arith) h)

-- at most half of a positive number has a digit less, so a binary search takes at most so many steps
pub digits_split : (w v : ℕ) → 0 < w → v ≤ w / 2 → digits v + 1 ≤ digits w
digits_split w v h k = omega (arith, digits_half w h, digits_mono v (w / 2) k)

-- a number with d digits is below 2 ^ d, and, if positive, at least half of that
pub digits_fit : (n : ℕ) → n < 2 ^ digits n
unfolding digits
digits_fit n = halvings_fit n n (omega arith)

pub digits_reached : (n : ℕ) → 2 ^ digits n ≤ max 1 (2 * n)
unfolding digits
digits_reached n = halvings_reached n n (omega arith)

pub digits_least : (n w : ℕ) → n < 2 ^ w → digits n ≤ w
digits_least n w lt =
    elim (cases_lt w (digits n)) [
      | inl more ↦
          let next : suc w ≤ digits n = omega arith in
          let big : 2 ^ suc w ≤ 2 ^ digits n = pow-le-pow_right (omega arith) next in
          absurd (omega (arith, big, digits_reached n, pow-suc 2 w, lt))
      | inr le ↦ le
    ]

-- the digits and the leading zeros of a 64-bit number are 64 in all
pub digits_by_zeros : (n : ℕ) → n < 2 ^ 64 → count_leading_zeros 64 n + digits n ≡ 64
digits_by_zeros n lt =
    let le = digits_least n 64 lt in
    let whole : 64 - digits n + digits n ≡ 64 = omega (arith, le) in
    omega (
      arith,
      leading_unique 64 n (64 - digits n) (digits n) whole (digits_fit n) (omega (arith, digits_reached n)),
      whole,
    )

-- ---- the greatest entry

above_start : (a : ℕ) (xs : List ℕ) → a ≤ fold max a xs
above_start a [] = omega arith
above_start a (x ∷ xs) = omega (arith, above_start (max a x) xs)

above_each : (a : ℕ) (xs : List ℕ) (i : ℕ) → get_or xs i 0 ≤ fold max a xs
above_each a [] i = omega arith
above_each a (x ∷ xs) zero = omega (arith, above_start (max a x) xs)
above_each a (x ∷ xs) (suc i) = above_each (max a x) xs i

below_bound : (a : ℕ) (xs : List ℕ) (bound : ℕ) → a < bound → ((i : ℕ) → get_or xs i 0 < bound) → fold max a xs < bound
below_bound a [] bound small each = small
below_bound a (x ∷ xs) bound small each =
    below_bound (max a x) xs bound (omega (arith, small, each 0)) (λ i. each (suc i))

-- ---- the width

-- each entry fits in the width
pub width_fits : (xs : List ℕ) (i : ℕ) → get_or xs i 0 < 2 ^ width_of xs
width_fits xs i =
    let most : 2 ^ digits (greatest xs) ≤ 2 ^ width_of xs = pow-le-pow_right (omega arith) (omega arith) in
    omega (arith, above_each 0 xs i, digits_fit (greatest xs), most)

-- no smaller positive width fits each entry
pub width_least : (xs : List ℕ) (w : ℕ) → 1 ≤ w → ((i : ℕ) → get_or xs i 0 < 2 ^ w) → width_of xs ≤ w
width_least xs w some each =
    omega (arith, digits_least (greatest xs) w (below_bound 0 xs (2 ^ w) (omega (arith, each 0)) each), some)

pub width_narrow : (xs : List ℕ) → ((i : ℕ) → get_or xs i 0 < 2 ^ 64) → width_of xs ≤ 64
width_narrow xs each = width_least xs 64 (omega arith) each
