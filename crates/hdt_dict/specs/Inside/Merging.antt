-- Merging two ascending lists: which strings have been passed, and which one is next.
use Rattle.std.specs.Prelude.{◌≡◌, ℕ, ◌+◌, ◌<◌, ◌≤◌, List, [], length, slice_index_or, true, false}
use Rattle.hdt_dict.specs.Strings.{FirstBelow, has}

-- the first i strings of xs are less than every string of ys from index j on
abbrev pub ArePassed : List (List ℕ) → ℕ → List (List ℕ) → ℕ → Type 0
ArePassed xs i ys j = (m : ℕ) → j ≤ m → m < length ys → FirstBelow xs i (slice_index_or ys m [])

-- string i of xs is next, and is not in ys
pub record IsNextInFirstOnly (xs : List (List ℕ)) (i : ℕ) (ys : List (List ℕ)) (j : ℕ) : Type 0 where
  pub within : i < length xs
  pub lacks : has ys (slice_index_or xs i []) ≡ false
  pub passed : ArePassed xs (i + 1) ys j
  pub ahead : ArePassed ys j xs (i + 1)

-- string i of xs and string j of ys are next, and are equal
pub record AreNextInBoth (xs : List (List ℕ)) (i : ℕ) (ys : List (List ℕ)) (j : ℕ) : Type 0 where
  pub first_within : i < length xs
  pub second_within : j < length ys
  pub second_has : has ys (slice_index_or xs i []) ≡ true
  pub first_has : has xs (slice_index_or ys j []) ≡ true
  pub first_passed : ArePassed xs (i + 1) ys (j + 1)
  pub second_passed : ArePassed ys (j + 1) xs (i + 1)
