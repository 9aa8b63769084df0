-- Lists in chunks.
use Rattle.std.proofs.Common.{◌≡◌, ◌∙◌, ℕ, zero, suc, ◌+◌, ◌-◌, ◌<◌, min, List, [], ◌∷◌, ◌++◌, drop}
use Rattle.std.proofs.Common.{get_or, length, refl, ap, sym, subst, arith}
use Rattle.std.proofs.lemmas.List.{drop_min, drop_more, drop-drop, length-append, length-drop}
use Rattle.hdt_build.specs.Inside.Chunks.{Chunk, chunk_numbers, chunk_strings, element_count, with_counts}
use Rattle.hdt_build.specs.Inside.PackedNumbers.{unpacked_numbers}
use Rattle.hdt_build.specs.Inside.PackedStrings.{unpacked_strings}
use Rattle.hdt_build.specs.Inside.PackedTriples.{IsEndOf, split_number}
use Rattle.hdt_build.proofs.PackedNumbers.{length_unpacked_numbers}
use Rattle.hdt_build.proofs.PackedStrings.{length_unpacked_strings}

-- ---- ends

-- what is left after the first elements is an end
pub end_drop : (k : ℕ) (xs : List ℕ) → IsEndOf (drop k xs) xs
end_drop k xs =
    let at : length xs - length (drop k xs) ≡ min k (length xs) = omega (arith, length-drop k xs) in
    ap (λ (n : ℕ). drop n xs) at ∙ drop_min k xs

-- an end of an end
pub end_of_end : (xs ys zs : List ℕ) → IsEndOf xs ys → IsEndOf ys zs → IsEndOf xs zs
end_of_end xs ys zs h k =
    let a : ℕ = length ys - length xs in
    let b : ℕ = length zs - length ys in
    subst (λ (l : List ℕ). IsEndOf l zs) (sym (drop-drop a b zs) ∙ ap (drop a) k ∙ h) (end_drop (b + a) zs)

-- ---- chunks with counts

pub length_with_counts : (chunks : List (List ℕ)) (ns : List ℕ) → length (with_counts chunks ns) ≡ length ns
unfolding with_counts
length_with_counts chunks [] = refl
length_with_counts chunks (n ∷ ns) = ap suc (length_with_counts (drop 1 chunks) ns)

after_one : (chunks : List (List ℕ)) (k : ℕ) → get_or (drop 1 chunks) k [] ≡ get_or chunks (suc k) []
after_one [] k = refl
after_one (x ∷ xs) k = refl

pub get_or_with_counts : (chunks : List (List ℕ)) (ns : List ℕ) (k : ℕ) → k < length ns
    → get_or (with_counts chunks ns) k ([], 0) ≡ (get_or chunks k [], get_or ns k 0)
unfolding with_counts
get_or_with_counts chunks [] k lt = absurd (omega (arith, lt))
get_or_with_counts chunks (n ∷ ns) zero lt = refl
get_or_with_counts chunks (n ∷ ns) (suc k) lt =
    get_or_with_counts (drop 1 chunks) ns k (omega (arith, lt))
    ∙ ap (λ (x : List ℕ). (x, get_or ns k 0)) (after_one chunks k)

pub with_counts_push : (chunks : List (List ℕ)) (ns : List ℕ) (x : List ℕ) (n : ℕ) → length chunks ≡ length ns
    → with_counts (chunks ++ x ∷ []) (ns ++ n ∷ []) ≡ with_counts chunks ns ++ (x, n) ∷ []
unfolding with_counts
with_counts_push [] [] x n same = refl
with_counts_push [] (m ∷ ns) x n same = absurd (omega (arith, same))
with_counts_push (y ∷ chunks) [] x n same = absurd (omega (arith, same))
with_counts_push (y ∷ chunks) (m ∷ ns) x n same =
    ap (λ (l : List Chunk). (y, m) ∷ l) (with_counts_push chunks ns x n (omega (arith, same)))

-- ---- numbers of elements

pub element_count_drop : (chunks : List Chunk) (k : ℕ) → k < length chunks
    → element_count (drop k chunks) ≡ (get_or chunks k ([], 0)).1 + element_count (drop (k + 1) chunks)
element_count_drop chunks k lt = ap element_count (drop_more chunks k ([], 0) lt)

pub length_rest_numbers : (n : ℕ) (bytes : List ℕ) (later : List Chunk)
    → length (unpacked_numbers n bytes ++ chunk_numbers later) ≡ n + element_count later
length_rest_numbers n bytes [] =
    omega (arith, length-append (unpacked_numbers n bytes) [], length_unpacked_numbers n bytes)
length_rest_numbers n bytes (c ∷ cs) =
    omega (
      arith,
      length-append (unpacked_numbers n bytes) (chunk_numbers (c ∷ cs)),
      length_unpacked_numbers n bytes,
      length_rest_numbers c.1 c.0 cs,
    )

pub length_rest_strings : (n : ℕ) (x bytes : List ℕ) (later : List Chunk)
    → length (unpacked_strings n x bytes ++ chunk_strings later) ≡ n + element_count later
length_rest_strings n x bytes [] =
    omega (arith, length-append (unpacked_strings n x bytes) [], length_unpacked_strings n x bytes)
length_rest_strings n x bytes (c ∷ cs) =
    omega (
      arith,
      length-append (unpacked_strings n x bytes) (chunk_strings (c ∷ cs)),
      length_unpacked_strings n x bytes,
      length_rest_strings c.1 [] c.0 cs,
    )

-- ---- reading

-- the first number, and those after it
pub one_number : (n : ℕ) (bytes later : List ℕ) → 0 < n
    → unpacked_numbers n bytes ++ later
    ≡ (split_number bytes).0 ∷ (unpacked_numbers (n - 1) (split_number bytes).1 ++ later)
unfolding unpacked_numbers
one_number zero bytes later some = absurd (omega (arith, some))
one_number (suc n) bytes later some =
    let less : suc n - 1 ≡ n = omega arith in
    rw less refl
