-- Merging two ascending lists: which strings are less than another one, whether it is in the list, and one step.
use Rattle.std.proofs.Common.{◌≡◌, ◌≢◌, ℕ, ◌<◌, ◌≤◌, Bool, true, false, not, List, length, get_or, refl, ap, sym, ◌∙◌}
use Rattle.std.proofs.Common.{inl, inr, arith}
use Rattle.std.specs.declared.cmp.Ordering.{Ordering}
use Rattle.std.specs.declared.cmp.Ordering.TheVariants.{Less, Equal, Greater}
use Rattle.std.specs.Ordering.{is_lt}
use Rattle.std.specs.List.{Contains}
use Rattle.std.specs.Cmp.{both_ways}
use Rattle.std.specs.Cmp.Lexicographic.{nat_list_cmp_total}
use Rattle.std.specs.Str.{bytes_eq}
use Rattle.std.proofs.lemmas.Bool.{cases_lt, cases_eq}
use Rattle.std.proofs.lemmas.Cmp.{tied_itself}
use Rattle.std.proofs.lemmas.Map.Keys.{Less-from_sorted}
use Rattle.std.proofs.lemmas.Slice.Eq.{bytes_eq-Decides}
use Rattle.hdt_dict.specs.Laws.Strings.{has-Contains, Contains-has}
use Rattle.hdt_dict.specs.Strings.{has, FirstBelow}
use Rattle.hdt_front.specs.Order.{IsAscending, string_cmp}

pub not_Less : (o : Ordering) → is_lt o ≡ false → o ≢ Less
not_Less Less h = λ e. cc
not_Less Equal h = λ e. cc
not_Less Greater h = λ e. cc

itself : (x : List ℕ) → string_cmp x x ≡ Equal
itself x = tied_itself nat_list_cmp_total x

-- a member of an ascending list is at the first index whose string is not less than it
module _ (ys : List (List ℕ)) (at : ℕ) (x : List ℕ) (up : IsAscending ys) (below : FirstBelow ys at x) where
  member_is_at_by : (k : ℕ) → k < length ys → get_or ys k x ≡ x
      → (at < length ys → string_cmp (get_or ys at x) x ≢ Less) → (at < length ys) × (get_or ys at x ≡ x)
  member_is_at_by k in' is stops =
      elim (cases_lt k at) as (λ _. (at < length ys) × (get_or ys at x ≡ x)) [
        | inl before ↦ absurd (differs (sym (below k before) ∙ ap (λ y. string_cmp y x) is ∙ itself x))
        | inr behind ↦
            let here : at < length ys = omega arith in
            elim (cases_eq k at) as (λ _. (at < length ys) × (get_or ys at x ≡ x)) [
              | inl same ↦ (here, ap (λ i. get_or ys i x) (sym same) ∙ is)
              | inr apart ↦ absurd (stops here (ap (λ y. string_cmp (get_or ys at x) y) (sym is)
                  ∙ Less-from_sorted string_cmp ys at k x up (omega arith) in'))
            ]
      ]
    where
      differs : Less ≡ Equal → ⊥
      differs e = cc

  pub member_is_at : (at < length ys → string_cmp (get_or ys at x) x ≢ Less) → Contains ys x → (at < length ys)
      × (get_or ys at x ≡ x)
  member_is_at stops h = member_is_at_by h.0 h.1 h.2 stops

  -- the result of the test at that index
  pub has_here : at < length ys → string_cmp (get_or ys at x) x ≢ Less → (y : List ℕ) → get_or ys at x ≡ y
      → bytes_eq y x ≡ has ys x
  has_here here stops y is =
      both_ways _ _
      (λ t. Contains-has ys x (at, here, is ∙ (bytes_eq-Decides y x).0 t))
      (λ t. (bytes_eq-Decides y x).1 (sym is ∙ (member_is_at (λ _. stops) (has-Contains ys x t)).1))

  pub has_past : length ys ≤ at → false ≡ has ys x
  has_past past =
      both_ways _ _
      (λ t. cc)
      (λ t. absurd (omega (arith, (member_is_at (λ h. absurd (omega arith)) (has-Contains ys x t)).0)))

module _ (ys : List (List ℕ)) (x : List ℕ) where
  by : (absent : ¬ Contains ys x) (b : Bool) → has ys x ≡ b → not b ≡ true
  by absent true e = absurd (absent (has-Contains ys x e))
  by absent false e = refl

  -- a string that is not a member is not in the list
  pub lacks : ¬ Contains ys x → not (has ys x) ≡ true
  lacks absent = by absent (has ys x) refl

  pub lacks-back : not (has ys x) ≡ true → ¬ Contains ys x
  lacks-back h = λ there. let e = Contains-has ys x there in let g : not (has ys x) ≡ false = ap not e in cc
