-- The triples of graphs whose blank nodes are kept apart.
use Rattle.std.proofs.Common.{◌≡◌, ◌∙◌, ◌+◌, ◌++◌, ◌∷◌, ℕ, List, [], length, ap, sym, arith}
use Rattle.std.proofs.lemmas.List.{append_assoc, append-nil}
use Rattle.hdt_file.specs.Denoted.{StringTriple}
use Rattle.hdt_c.specs.Merging.{triples_apart, triples_apart_of}
use Rattle.hdt_c.specs.declared.handle.HdtGraph.{HdtGraph}

-- the triples of one more graph, behind those that are numbered from n on
pub apart_more : (n : ℕ) (hs : List HdtGraph) (h : HdtGraph)
    → triples_apart n hs ++ triples_apart_of (n + length hs) h ≡ triples_apart n (hs ++ h ∷ [])
apart_more n [] h =
    let number : n + length {A = HdtGraph} [] ≡ n = omega arith in
    ap (λ (k : ℕ). triples_apart_of k h) number ∙ sym (append-nil (triples_apart_of n h))
apart_more n (x ∷ hs) h =
    let number : n + length (x ∷ hs) ≡ n + 1 + length hs = omega arith in
    append_assoc (triples_apart_of n x) (triples_apart (n + 1) hs) (triples_apart_of (n + length (x ∷ hs)) h)
    ∙ (ap (λ (k : ℕ). triples_apart_of n x ++ (triples_apart (n + 1) hs ++ triples_apart_of k h)) number
    ∙ ap (λ (ts : List StringTriple). triples_apart_of n x ++ ts) (apart_more (n + 1) hs h))
