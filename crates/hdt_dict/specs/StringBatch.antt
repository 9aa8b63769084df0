-- The strings of many IDs at once.
use Rattle.std.specs.Prelude.{◌≡◌, ℕ, ◌+◌, ◌-◌, ◌<◌, ◌≤◌, Bool, true, false, List, [], ◌∷◌, ◌++◌, map, length}
use Rattle.std.specs.Prelude.{slice_index, slice_index_or}
use Rattle.std.specs.List.{concat}

-- each ID, from 1, is that of a string
abbrev pub AreIds : List (List ℕ) → List ℕ → Type 0
AreIds xs ids = (i : ℕ) → i < length ids → (1 ≤ slice_index ids i) × (slice_index ids i ≤ length xs)

-- the strings of these IDs, in the order of the IDs
abbrev pub strings_by_id : List (List ℕ) → List ℕ → List (List ℕ)
strings_by_id xs ids = map (λ n. slice_index_or xs (n - 1) []) ids

-- the byte offset at which each of the concatenated strings ends, if the first one starts at an offset
unfoldable pub ends_from : ℕ → List (List ℕ) → List ℕ
ends_from at [] = []
ends_from at (x ∷ xs) = (at + length x) ∷ ends_from (at + length x) xs

-- the strings were appended to one buffer, and the offsets at which they end to another
pub record AppendsStrings (xs : List (List ℕ)) (old new ends after : List ℕ) : Type 0 where
  pub bytes : new ≡ old ++ concat xs
  pub places : after ≡ ends ++ ends_from (length old) xs

-- the strings of the IDs were appended; or one of the IDs is not valid, and neither buffer changed
abbrev pub AppendsAll : List (List ℕ) → List ℕ → Bool → List ℕ → List ℕ → List ℕ → List ℕ → Type 0
AppendsAll xs ids true old new ends after = AreIds xs ids × AppendsStrings (strings_by_id xs ids) old new ends after
AppendsAll xs ids false old new ends after = (AreIds xs ids → ⊥) × (new ≡ old) × (after ≡ ends)

-- the IDs never descend, and are at most n
abbrev pub AscendTo : List ℕ → ℕ → Type 0
AscendTo ids n = (i : ℕ) → i < length ids → (slice_index (0 ∷ ids) i ≤ slice_index ids i) × (slice_index ids i ≤ n)
