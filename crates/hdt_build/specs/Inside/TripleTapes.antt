-- Triples as numbers: of each, the step from the subject of the previous one, the predicate and the object.
use Rattle.std.specs.Prelude.{◌≡◌, ℕ, ◌+◌, ◌%◌, ◌^◌, List, [], ◌∷◌, ◌++◌}
use Rattle.hdt_triples.specs.TripleSequences.{Triple}

-- the triples of the numbers, of which the first one follows one with the subject x
unfoldable pub decoded_triples : ℕ → List ℕ → List Triple
decoded_triples x [] = []
decoded_triples x (a ∷ []) = []
decoded_triples x (a ∷ (b ∷ [])) = []
decoded_triples x (a ∷ (b ∷ (c ∷ rest))) = let s = (x + a) % 2 ^ 64 in (s, b, c) ∷ decoded_triples s rest

-- a triple after those of the numbers follows one with the subject x
pub record EndWith (numbers : List ℕ) (x : ℕ) : Type 0 where
  pub more : (rest : List ℕ) → decoded_triples 0 (numbers ++ rest) ≡ decoded_triples 0 numbers ++ decoded_triples x rest
