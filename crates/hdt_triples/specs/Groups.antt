-- Bitmaps of groups: a 1-bit for the last element of each run of equal elements.
use Rattle.std.specs.Prelude.{Bool, true, not, List, [], ◌∷◌}

abbrev pub group_end_bits_from : {X : Type 0} → (X → X → Bool) → X → List X → List Bool
group_end_bits_from same k [] = true ∷ []
group_end_bits_from same k (x ∷ xs) = not (same x k) ∷ group_end_bits_from same x xs

-- A 1-bit for each element that is not followed by an equal one.
abbrev pub group_end_bits : {X : Type 0} → (X → X → Bool) → List X → List Bool
group_end_bits same [] = []
group_end_bits same (x ∷ xs) = group_end_bits_from same x xs
