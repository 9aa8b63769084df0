-- The terms of a window: one more, and those of a triple.
use Rattle.std.proofs.Common.{◌≡◌, ℕ, ◌<◌, List, [], ◌∷◌, ◌++◌, length, length-append, get_or, sym, ap, ◌∙◌, subst}
use Rattle.std.proofs.Common.{inl, inr, arith}
use Rattle.std.proofs.Math.Seq.{get_or-append_seam}
use Rattle.std.proofs.lemmas.Bool.{cases_lt}
use Rattle.std.proofs.lemmas.List.{get_or_append_left}
use Rattle.hdt_wire.specs.declared.Role.{Role}
use Rattle.std.specs.Option.{unwrap_or}
use Rattle.hdt_dict.specs.Dictionary.{role_strings}
use Rattle.hdt_dict.specs.Ids.{string_at_id}
use Rattle.hdt_file.specs.Denoted.{string_of}
use Rattle.hdt_file.specs.File.{GraphParts}
use Rattle.hdt_file.specs.TextWriting.{AppendsTerm}

-- what holds for each element, and for one more, holds for all
pub each_and_one : (P : ℕ → List ℕ → Type 0) (xs ys : List (List ℕ)) (x : List ℕ) → ys ≡ xs ++ x ∷ []
    → ((i : ℕ) → i < length xs → P i (get_or xs i [])) → P (length xs) x
    → (i : ℕ) → i < length ys → P i (get_or ys i [])
each_and_one P xs ys x e h one i below = elim (cases_lt i (length xs)) [
  | inl lt ↦ subst (P i) (sym (ap (λ (l : List (List ℕ)). get_or l i []) e ∙ get_or_append_left xs (x ∷ []) [] i lt))
      (h i lt)
  | inr le ↦
      let here : i ≡ length xs = omega (arith, le, below, ap length e, length-append xs (x ∷ [])) in
      let last : get_or ys i [] ≡ x =
      ap (λ (l : List (List ℕ)). get_or l i []) e ∙ ap (λ n. get_or (xs ++ x ∷ []) n []) here
      ∙ get_or-append_seam xs x [] [] in
      subst (P i) (sym last) (subst (λ n. P n x) (sym here) one)
]

-- the bytes of a term were appended
pub term_after : (role : Role) (string term old new : List ℕ) → AppendsTerm role string [] term → new ≡ old ++ term
    → AppendsTerm role string old new
term_after role string term old new h e =
    record { term = h.term; is = h.is; grown = e ∙ ap (λ (l : List ℕ). old ++ l) h.grown }

-- the term that was rendered is that of the ID with the next index
pub one_rendered : (g : GraphParts) (role : Role) (strings : List (List ℕ)) (ids : List ℕ) (at k n : ℕ)
    (term text : List ℕ) → strings ≡ role_strings g.dictionary role → k ≡ at → n ≡ get_or ids at 0 → text ≡ term
    → (0 < length term → AppendsTerm role (unwrap_or (string_at_id strings n) []) [] term)
    → 0 < length text → AppendsTerm role (string_of g role (get_or ids k 0)) [] text
one_rendered g role strings ids at k n term text same here is seen h long =
    let found : AppendsTerm role (unwrap_or (string_at_id strings n) []) [] text =
    subst (λ (x : List ℕ). AppendsTerm role (unwrap_or (string_at_id strings n) []) [] x) (sym seen)
    (h (subst (λ (x : List ℕ). 0 < length x) seen long)) in
    let mine : AppendsTerm role (string_of g role n) [] text =
    subst (λ (xs : List (List ℕ)). AppendsTerm role (unwrap_or (string_at_id xs n) []) [] text) same found in
    subst (λ (m : ℕ). AppendsTerm role (string_of g role m) [] text)
    (is ∙ ap (λ j. get_or ids j 0) (sym here)) mine
