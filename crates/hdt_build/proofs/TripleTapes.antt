-- Triples as numbers: one more at the end.
use Rattle.std.proofs.Common.{◌≡◌, ◌∙◌, ℕ, ◌+◌, ◌%◌, ◌^◌, ◌<◌, ◌≤◌, List, [], ◌∷◌, ◌++◌, length, refl, sym, arith}
use Rattle.std.proofs.Common.{append_assoc, append-nil}
use Rattle.hdt_triples.specs.TripleSequences.{Triple}
use Rattle.hdt_build.specs.Inside.TripleTapes.{EndWith, decoded_triples}

pub start : (numbers : List ℕ) → numbers ≡ [] → EndWith numbers 0
unfolding decoded_triples
start numbers none = rw none (record { more = λ rest. refl })

module _ (x step : ℕ) (t : Triple) (to : (x + step) % 2 ^ 64 ≡ t.0) (old new : List ℕ) (end : EndWith old x)
    (is : new ≡ old ++ step ∷ t.1 ∷ t.2 ∷ []) where
  with_rest : (rest : List ℕ) → decoded_triples 0 (new ++ rest) ≡ decoded_triples 0 old ++ t ∷ decoded_triples t.0 rest
  unfolding decoded_triples
  with_rest rest = rw (is, append_assoc, end.more (step ∷ t.1 ∷ t.2 ∷ rest), to) refl

  pub one_more : decoded_triples 0 new ≡ decoded_triples 0 old ++ t ∷ []
  unfolding decoded_triples
  one_more = rw append-nil at (with_rest [])

  pub end_more : EndWith new t.0
  end_more = record {
    more = λ rest. rw one_more (with_rest rest
        ∙ sym (append_assoc (decoded_triples 0 old) (t ∷ []) (decoded_triples t.0 rest)));
  }

-- three numbers fewer are one triple fewer
pub fewer_triples : (x y : ℕ) (ys xs : List ℕ) → length ys + 3 ≤ length xs
    → length (decoded_triples y ys) < length (decoded_triples x xs)
unfolding decoded_triples
fewer_triples x y ys [] less = absurd (omega (arith, less))
fewer_triples x y ys (a ∷ []) less = absurd (omega (arith, less))
fewer_triples x y ys (a ∷ (b ∷ [])) less = absurd (omega (arith, less))
fewer_triples x y [] (a ∷ (b ∷ (c ∷ xs))) less = omega arith
fewer_triples x y (p ∷ []) (a ∷ (b ∷ (c ∷ xs))) less = omega arith
fewer_triples x y (p ∷ (q ∷ [])) (a ∷ (b ∷ (c ∷ xs))) less = omega arith
fewer_triples x y (p ∷ (q ∷ (r ∷ ys))) (a ∷ (b ∷ (c ∷ xs))) less =
    let ih = fewer_triples ((x + a) % 2 ^ 64) ((y + p) % 2 ^ 64) ys xs (omega (arith, less)) in omega (arith, ih)
