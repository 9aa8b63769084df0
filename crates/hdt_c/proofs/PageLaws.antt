-- Pages that were cut to the room of a buffer.
use mathlib.Core.Path.{refl, ap, sym, ◌∙◌}
use Rattle.std.proofs.Common.{◌≡◌, ℕ, suc, zero, List, [], ◌∷◌, map, take, drop, length, subst, inl}
use Rattle.std.specs.Prelude.{Option, Some, None, ◌↔◌}
use Rattle.std.proofs.lemmas.Option.{none-some}
use Rattle.hdt_triples.specs.TripleSequences.{Triple}
use Rattle.hdt_triples.specs.Patterns.{matches}
use Rattle.hdt_triples.specs.declared.pattern.Pattern.{Pattern}
use Rattle.hdt_file.specs.File.{GraphParts}
use Rattle.hdt_file.specs.Paging.{IsNextMatch}
use Rattle.hdt_c.specs.CallerBuffer.{overwritten_prefix}
use Rattle.hdt_c.specs.LookUps.{numbers}
use Rattle.hdt_c.specs.Pages.{PatternSatisfies, PutsPage}

cut_twice : {X : Type 0} (n : ℕ) (xs : List X) → take n (take n xs) ≡ take n xs
cut_twice zero xs = refl
cut_twice (suc n) [] = refl
cut_twice (suc n) (x ∷ xs) = ap (λ l. x ∷ l) (cut_twice n xs)

written_cut : {X : Type 0} (old xs : List X) → overwritten_prefix (take (length old) xs) old ≡ overwritten_prefix xs old
written_cut [] [] = refl
written_cut [] (x ∷ xs) = refl
written_cut (y ∷ old) [] = refl
written_cut (y ∷ old) (x ∷ xs) = ap (λ l. x ∷ l) (written_cut old xs)

map_cut : {X Y : Type 0} (f : X → Y) (n : ℕ) (xs : List X) → map f (take n xs) ≡ take n (map f xs)
map_cut f zero xs = refl
map_cut f (suc n) [] = refl
map_cut f (suc n) (x ∷ xs) = ap (λ l. f x ∷ l) (map_cut f n xs)

-- a page with a next match
pub page_is_put : (g : GraphParts) (pattern : Option Pattern) (p : Pattern) (from answer next : ℕ)
    (old new : List (List ℕ)) (items : List Triple) → pattern ≡ Some p
    → items ≡ take (length old) (matches p (drop from g.triples)) → answer ≡ length (take (length old) items)
    → new ≡ overwritten_prefix (map numbers items) old
    → IsNextMatch g.triples p from (length old) next → PutsPage g pattern from answer next old new
page_is_put g pattern p from answer next old new items given are count put follows =
    let found = matches p (drop from g.triples) in
    subst (λ (o : Option Pattern). PutsPage g o from answer next old new) (sym given) (inl (record {
      count = count ∙ ap (λ l. length (take (length old) l)) are ∙ ap length (cut_twice (length old) found);
      put = put ∙ ap (λ l. overwritten_prefix (map numbers l) old) are
          ∙ ap (λ l. overwritten_prefix l old) (map_cut numbers (length old) found)
          ∙ written_cut old (map numbers found);
      next_is = inl follows;
    }))

-- what is true of an optional pattern that is what is given
pub of_given : (pattern : Option Pattern) (IsGiven : Pattern → Type 0) (P : Option Pattern → Type 0)
    → ((p : Pattern) → (pattern ≡ Some p) ↔ IsGiven p) → P pattern → PatternSatisfies IsGiven P
of_given None IsGiven P exact is =
    record { found = λ p given. absurd (none-some p ((exact p).1 given)); none = λ never. is }
of_given (Some q) IsGiven P exact is = record {
  found = λ p given. subst P ((exact p).1 given) is;
  none = λ never. absurd (never q ((exact q).0 refl));
}
