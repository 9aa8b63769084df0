-- Joining texts, one after another.
use Rattle.std.proofs.Common.{◌≡◌, ℕ, ◌+◌, List, [], ◌∷◌, ◌++◌, length, map, take, drop, refl, sym, ap, ◌∙◌, arith}
use Rattle.std.proofs.Common.{length-append}
use Rattle.std.specs.Prelude.{Some}
use Rattle.std.specs.List.{concat}
use Rattle.std.specs.Global.{Vec}
use Rattle.std.proofs.lemmas.List.{map-append, append-nil}
use Rattle.std.proofs.lemmas.List.Folds.{concat-append}
use Rattle.std.proofs.Math.Seq.{take-append_seam}
use Rattle.hdt_wire.specs.declared.counted.Counted.{Counted}
use Rattle.hdt_dict.specs.StringBatch.{ends_from}
use Rattle.hdt_c.specs.Splitting.{written_text, written_texts}

-- one more text
pub bytes_push : (xs : List (Counted (Vec ℕ))) (x : Counted (Vec ℕ)) (bytes new : List ℕ)
    → bytes ≡ concat (written_texts xs) → new ≡ bytes ++ written_text x → new ≡ concat (written_texts (xs ++ x ∷ []))
bytes_push xs x bytes new e f =
    let s : List ℕ = written_text x in
    f ∙ ap (λ l. l ++ s) e ∙ ap (λ l. concat (written_texts xs) ++ l) (sym (append-nil s))
    ∙ sym (concat-append (written_texts xs) (s ∷ []))
    ∙ ap concat (sym (map-append (λ (out : Counted (Vec ℕ)). written_text out) xs (x ∷ [])))

end_push : (at : ℕ) (xs : List (List ℕ)) (s : List ℕ)
    → ends_from at (xs ++ s ∷ []) ≡ ends_from at xs ++ (at + length (concat (xs ++ s ∷ []))) ∷ []
unfolding ends_from
end_push at [] s = ap (λ (n : ℕ). n ∷ []) (ap (λ (l : List ℕ). at + length l) (sym (append-nil s)))
end_push at (x ∷ xs) s =
    let whole : at + length x + length (concat (xs ++ s ∷ [])) ≡ at + length (x ++ concat (xs ++ s ∷ [])) =
    omega (arith, length-append x (concat (xs ++ s ∷ []))) in
    ap (λ l. (at + length x) ∷ l) (end_push (at + length x) xs s
    ∙ ap (λ (n : ℕ). ends_from (at + length x) xs ++ n ∷ []) whole)

-- the end of one more text
pub ends_push : (xs : List (Counted (Vec ℕ))) (x : Counted (Vec ℕ)) (ends new : List ℕ) (n : ℕ)
    → ends ≡ ends_from 0 (written_texts xs) → new ≡ ends ++ n ∷ [] → n ≡ length (concat (written_texts (xs ++ x ∷ [])))
    → new ≡ ends_from 0 (written_texts (xs ++ x ∷ []))
ends_push xs x ends new n e f size =
    let more : written_texts (xs ++ x ∷ []) ≡ written_texts xs ++ written_text x ∷ [] =
    map-append (λ (out : Counted (Vec ℕ)). written_text out) xs (x ∷ []) in
    let zero_more : length (concat (written_texts xs ++ written_text x ∷ []))
    ≡ 0 + length (concat (written_texts xs ++ written_text x ∷ [])) = omega arith in
    f ∙ ap (λ l. l ++ n ∷ []) e
    ∙ ap (λ (k : ℕ). ends_from 0 (written_texts xs) ++ k ∷ []) (size ∙ ap (λ l. length (concat l)) more)
    ∙ ap (λ (k : ℕ). ends_from 0 (written_texts xs) ++ k ∷ []) zero_more
    ∙ sym (end_push 0 (written_texts xs) (written_text x)) ∙ ap (ends_from 0) (sym more)

-- what each writer has, as the writers' contents
pub known_texts : (outs : List (Counted (Vec ℕ))) → map (λ (out : Counted (Vec ℕ)). Some (written_text out)) outs
    ≡ map (λ (part : List ℕ). Some part) (written_texts outs)
known_texts [] = refl
known_texts (out ∷ outs) = ap (λ l. Some (written_text out) ∷ l) (known_texts outs)

-- a buffer that was written as a whole
pub whole_buffer : {A : Type 0} → (n : ℕ) (xs ys : List A) → length xs ≡ n → take n (xs ++ drop (length xs) ys) ≡ xs
whole_buffer n xs ys e = ap (λ (k : ℕ). take k (xs ++ drop (length xs) ys)) (sym e)
    ∙ take-append_seam xs (drop (length xs) ys)
