-- Which triples can be written, one at a time.
use Rattle.std.specs.Prelude.{◌≡◌, ℕ, ◌+◌, ◌≤◌, List}
use Rattle.hdt_triples.specs.TripleSequences.{Triple}
use Rattle.hdt_triples.specs.Order.{nth_triple, TripleLess}

-- Triple i has no ID 0, and can follow the previous one; the first triple has subject 1.
pub record IsWritableAt (ts : List Triple) (i : ℕ) : Type 0 where
  pub predicate : 1 ≤ (nth_triple ts i).1
  pub object : 1 ≤ (nth_triple ts i).2
  pub first : i ≡ 0 → (nth_triple ts i).0 ≡ 1
  pub less : (k : ℕ) → i ≡ k + 1 → TripleLess (nth_triple ts k) (nth_triple ts i)
  pub next : (k : ℕ) → i ≡ k + 1 → (nth_triple ts i).0 ≤ (nth_triple ts k).0 + 1
