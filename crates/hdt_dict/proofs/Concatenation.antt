-- Appending strings, one after another.
use Rattle.std.proofs.Common.{◌≡◌, ℕ, zero, suc, ◌+◌, ◌-◌, ◌*◌, ◌<◌, ◌≤◌, List, [], ◌∷◌, ◌++◌, length, take}
use Rattle.std.proofs.Common.{slice_index, slice_index_or, refl, sym, ap, ◌∙◌, arith, append_assoc, length-append}
use Rattle.std.specs.List.{concat}
use Rattle.std.specs.Prelude.{Result, Ok, Err, OnErr}
use Rattle.hdt_wire.specs.Control.{IsPrefixOf}
use Rattle.std.proofs.lemmas.List.{take_more, map-append, append-nil, take-append-le}
use Rattle.std.proofs.lemmas.List.Folds.{concat-append}
use Rattle.hdt_dict.specs.StringBatch.{AscendTo, ends_from, strings_by_id}

-- one more string
pub strings_more : (xs : List (List ℕ)) (ns : List ℕ) (i : ℕ) → i < length ns
    → strings_by_id xs (take (i + 1) ns) ≡ strings_by_id xs (take i ns) ++ slice_index_or xs (slice_index ns i - 1) []
    ∷ []
strings_more xs ns i h = ap (strings_by_id xs) (take_more ns i 0 h)
    ∙ map-append (λ n. slice_index_or xs (n - 1) []) (take i ns) (slice_index ns i ∷ [])

pub texts_more : (xs : List (List ℕ)) (ns : List ℕ) (i : ℕ) (old out new : List ℕ) → i < length ns
    → out ≡ old ++ concat (strings_by_id xs (take i ns)) → new ≡ out ++ slice_index_or xs (slice_index ns i - 1) []
    → new ≡ old ++ concat (strings_by_id xs (take (i + 1) ns))
texts_more xs ns i old out new h e f =
    let s : List ℕ = slice_index_or xs (slice_index ns i - 1) [] in
    let before : List (List ℕ) = strings_by_id xs (take i ns) in
    f ∙ ap (λ l. l ++ s) e ∙ append_assoc old (concat before) s
    ∙ ap (λ l. old ++ l) (ap (λ l. concat before ++ l) (sym (append-nil s)) ∙ sym (concat-append before (s ∷ []))
    ∙ ap concat (sym (strings_more xs ns i h)))

ends_push : (at : ℕ) (xs : List (List ℕ)) (s : List ℕ)
    → ends_from at (xs ++ s ∷ []) ≡ ends_from at xs ++ (at + length (concat (xs ++ s ∷ []))) ∷ []
unfolding ends_from
ends_push at [] s = ap (λ (n : ℕ). n ∷ []) (ap (λ (l : List ℕ). at + length l) (sym (append-nil s)))
ends_push at (x ∷ xs) s =
    let whole : at + length x + length (concat (xs ++ s ∷ [])) ≡ at + length (x ++ concat (xs ++ s ∷ [])) =
    omega (arith, length-append x (concat (xs ++ s ∷ []))) in
    ap (λ l. (at + length x) ∷ l) (ends_push (at + length x) xs s
    ∙ ap (λ (n : ℕ). ends_from (at + length x) xs ++ n ∷ []) whole)

pub ends_more : (xs : List (List ℕ)) (ns : List ℕ) (i n : ℕ) (old new ends after more : List ℕ) → i < length ns
    → new ≡ old ++ concat (strings_by_id xs (take (i + 1) ns)) → n ≡ length new
    → after ≡ ends ++ ends_from (length old) (strings_by_id xs (take i ns)) → more ≡ after ++ n ∷ []
    → more ≡ ends ++ ends_from (length old) (strings_by_id xs (take (i + 1) ns))
ends_more xs ns i n old new ends after more h e size f g =
    let s : List ℕ = slice_index_or xs (slice_index ns i - 1) [] in
    let before : List (List ℕ) = strings_by_id xs (take i ns) in
    let place : n ≡ length old + length (concat (before ++ s ∷ [])) =
    size ∙ ap length e ∙ length-append old (concat (strings_by_id xs (take (i + 1) ns)))
    ∙ ap (λ l. length old + length (concat l)) (strings_more xs ns i h) in
    g ∙ ap (λ l. l ++ n ∷ []) f ∙ append_assoc ends (ends_from (length old) before) (n ∷ [])
    ∙ ap (λ l. ends ++ l) (ap (λ (n : ℕ). ends_from (length old) before ++ n ∷ []) place
    ∙ sym (ends_push (length old) before s) ∙ ap (ends_from (length old)) (sym (strings_more xs ns i h)))

-- the ID before the next one
pub before_next : (ns : List ℕ) (i : ℕ) → slice_index (0 ∷ ns) (i + 1) ≡ slice_index ns i
before_next ns i = let next : i + 1 ≡ suc i = omega arith in ap (slice_index (0 ∷ ns)) next

pub before_within : (ns : List ℕ) (n i : ℕ) → AscendTo ns n → i ≤ length ns → slice_index (0 ∷ ns) i ≤ n
before_within ns n zero a h = omega arith
before_within ns n (suc i) a h = (a i (omega (arith, h))).1

pub one_more : (i m : ℕ) → (i + 1) * m ≡ i * m + m
one_more i m = grind arith

-- an error may leave bytes after the old ones
pub left_behind : {T E : Type 0} (result : Result T E) (old new more : List ℕ) → new ≡ old ++ more
    → OnErr result (IsPrefixOf old new)
left_behind (Ok x) old new more e = tt
left_behind (Err x) old new more e = ap (take (length old)) e ∙ take-append-le (length old) old more (omega arith)
    ∙ whole old
  where
    whole : (l : List ℕ) → take (length l) l ≡ l
    whole [] = refl
    whole (x ∷ l) = ap (λ l. x ∷ l) (whole l)
