-- Writing a list to a buffer, one by one.
use mathlib.Core.Path.{refl, ap, sym, ◌∙◌}
use Rattle.std.proofs.Common.{arith, ◌≡◌, ◌<◌, ◌+◌, ◌-◌, ◌++◌, ℕ, suc, zero, List, [], ◌∷◌, map, take, drop, length}
use Rattle.std.proofs.Common.{slice_set, subst}
use Rattle.std.specs.List.{range_with_len}
use Rattle.std.proofs.lemmas.List.{take-append-drop}
use Rattle.hdt_c.specs.CallerBuffer.{overwritten_prefix}

write_one : {X : Type 0} (x : X) (xs b : List X) (i : ℕ) → i < length b
    → take (suc i) (slice_set b i x) ++ overwritten_prefix xs (drop (suc i) (slice_set b i x))
    ≡ take i b ++ overwritten_prefix (x ∷ xs) (drop i b)
write_one x xs [] i lt = absurd (omega (arith, lt))
write_one x xs (y ∷ b) zero lt = refl
write_one x xs (y ∷ b) (suc i) lt = ap (λ l. y ∷ l) (write_one x xs b i (omega (arith, lt)))

one_more : (f : ℕ → ℕ) (a n m : ℕ) → n ≡ suc m → map f (range_with_len a n) ≡ f a ∷ map f (range_with_len (a + 1) m)
one_more f a n m e = ap (λ k. map f (range_with_len a k)) e

-- the next number is written
pub write_next : (f : ℕ → ℕ) (len i v : ℕ) (b all : List ℕ) → i < length b → i < len → v ≡ f (i + 1)
    → take i b ++ overwritten_prefix (map f (range_with_len (i + 1) (len - i))) (drop i b) ≡ all
    → take (i + 1) (slice_set b i v)
    ++ overwritten_prefix (map f (range_with_len (i + 1 + 1) (len - (i + 1)))) (drop (i + 1) (slice_set b i v))
    ≡ all
write_next f len i v b all fits within is before =
    let rest : List ℕ = map f (range_with_len (i + 1 + 1) (len - (i + 1))) in
    let here : suc i ≡ i + 1 = omega arith in
    subst (λ (w : ℕ). take (i + 1) (slice_set b i w) ++ overwritten_prefix rest (drop (i + 1) (slice_set b i w))
    ≡ all) (sym is)
    (subst (λ (k : ℕ). take k (slice_set b i (f (i + 1)))
    ++ overwritten_prefix rest (drop k (slice_set b i (f (i + 1)))) ≡ all) here (write_one (f (i + 1)) rest b i fits
    ∙ ap (λ xs. take i b ++ overwritten_prefix xs (drop i b))
    (sym (one_more f (i + 1) (len - i) (len - (i + 1)) (omega (arith, within))))
    ∙ before))

overwritten_by_none : {X : Type 0} (n : ℕ) (b : List X) → take {0} {A = X} n [] ++ b ≡ b
overwritten_by_none zero b = refl
overwritten_by_none (suc n) b = refl

-- no number is left
pub none_left : (f : ℕ → ℕ) (len i : ℕ) (b all : List ℕ) → len - i ≡ 0
    → take i b ++ overwritten_prefix (map f (range_with_len (i + 1) (len - i))) (drop i b) ≡ all → b ≡ all
none_left f len i b all none before =
    sym (take-append-drop i b) ∙ ap (λ xs. take i b ++ xs) (sym (overwritten_by_none (length (drop i b)) (drop i b)))
    ∙ ap (λ n. take i b ++ overwritten_prefix (map f (range_with_len (i + 1) n)) (drop i b)) (sym none) ∙ before
