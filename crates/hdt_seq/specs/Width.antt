-- The width of a canonical log sequence: the number of binary digits of its greatest entry, and at least 1.
use Rattle.std.specs.Prelude.{ℕ, zero, suc, ◌/◌, max, List, fold}

-- how often a number can be halved before it is 0, up to a limit
unfoldable pub halvings : ℕ → ℕ → ℕ
halvings zero n = 0
halvings (suc limit) zero = 0
halvings (suc limit) (suc n) = suc (halvings limit (suc n / 2))

-- the number of binary digits of a number; 0 has none
unfoldable pub digits : ℕ → ℕ
digits n = halvings n n

-- the greatest entry, or 0 if there is none
abbrev pub greatest : List ℕ → ℕ
greatest xs = fold max 0 xs

abbrev pub width_of : List ℕ → ℕ
width_of xs = max 1 (digits (greatest xs))
