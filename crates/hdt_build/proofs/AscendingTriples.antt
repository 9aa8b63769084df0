-- Ascending triples with one more.
use Rattle.std.proofs.Common.{◌≡◌, ◌∙◌, ◌⊎◌, inl, inr, ℕ, ◌+◌, ◌-◌, ◌<◌, List, []}
use Rattle.std.proofs.Common.{◌∷◌, ◌++◌, Option, Some, None, length, ap, arith, subst, sym}
use Rattle.std.specs.Prelude.{IfSome}
use Rattle.std.specs.List.{Contains}
use Rattle.std.proofs.lemmas.Bool.{cases_lt}
use Rattle.std.proofs.lemmas.List.{get_or_append_left, get_or-append-add, length_push}
use Rattle.std.proofs.lemmas.List.Elements.{Contains-append_cases, Contains-append_left, Contains-get_or}
use Rattle.hdt_dict.specs.Laws.Members.{Contains-cons_cases, Contains-nil}
use Rattle.hdt_dict.specs.Strings.{SameMembers}
use Rattle.hdt_triples.specs.Order.{AreAscending, TripleLess, nth_triple}
use Rattle.hdt_triples.specs.TripleSequences.{Triple}
use Rattle.hdt_build.specs.Inside.TripleRuns.{AreAscendingTo, last_triple}

module _ (ts : List Triple) (t : Triple) where
  new_last : nth_triple (ts ++ t ∷ []) (length ts) ≡ t
  new_last = sym (ap (λ (k : ℕ). nth_triple (ts ++ t ∷ []) k) (omega arith))
      ∙ get_or-append-add ts (t ∷ []) 0 (0, 0, 0)

  ascending_more : AreAscending ts → (0 < length ts → TripleLess (last_triple ts) t) → AreAscending (ts ++ t ∷ [])
  ascending_more up less i lt =
      elim (cases_lt (i + 1) (length ts)) as (λ _. TripleLess (nth_triple (ts ++ t ∷ []) i)
      (nth_triple (ts ++ t ∷ []) (i + 1))) [
        | inl old ↦
            let a : nth_triple (ts ++ t ∷ []) i ≡ nth_triple ts i =
            get_or_append_left ts (t ∷ []) (0, 0, 0) i (omega (arith, old)) in
            let b : nth_triple (ts ++ t ∷ []) (i + 1) ≡ nth_triple ts (i + 1) =
            get_or_append_left ts (t ∷ []) (0, 0, 0) (i + 1) old in
            subst (λ (u : Triple). TripleLess u (nth_triple (ts ++ t ∷ []) (i + 1))) (sym a)
            (subst (λ (u : Triple). TripleLess (nth_triple ts i) u) (sym b) (up i old))
        | inr new ↦
            let at : length ts ≡ i + 1 = omega (arith, lt, new, length_push ts t) in
            let before : length ts - 1 ≡ i = omega (arith, at) in
            let a : last_triple ts ≡ nth_triple (ts ++ t ∷ []) i =
            ap (λ (k : ℕ). nth_triple ts k) before
            ∙ sym (get_or_append_left ts (t ∷ []) (0, 0, 0) i (omega (arith, at))) in
            let b : t ≡ nth_triple (ts ++ t ∷ []) (i + 1) =
            sym new_last ∙ ap (λ (k : ℕ). nth_triple (ts ++ t ∷ []) k) at in
            subst (λ (u : Triple). TripleLess u (nth_triple (ts ++ t ∷ []) (i + 1))) a
            (subst (λ (u : Triple). TripleLess (last_triple ts) u) b (less (omega (arith, at))))
      ]

  after_last : (last : Option Triple) → AreAscendingTo last ts → IfSome last (λ u. TripleLess u t) → 0 < length ts
      → TripleLess (last_triple ts) t
  after_last (Some u) a less some = subst (λ (v : Triple). TripleLess v t) (sym a.some.1) less
  after_last None a less some = absurd (omega (arith, some, ap length a.none))

  pub ascending_to : (last : Option Triple) → AreAscendingTo last ts → IfSome last (λ u. TripleLess u t)
      → AreAscendingTo (Some t) (ts ++ t ∷ [])
  ascending_to last a less =
      let end : length (ts ++ t ∷ []) - 1 ≡ length ts = omega (arith, length_push ts t) in
      record {
        ascending = ascending_more a.ascending (after_last last a less);
        some = (omega (arith, length_push ts t), ap (λ (k : ℕ). nth_triple (ts ++ t ∷ []) k) end ∙ new_last);
        none = tt;
      }

  -- the last triple is a member
  pub last_again : (last : Option Triple) → AreAscendingTo last ts → last ≡ Some t → Contains ts t
  last_again last a is =
      let some : (0 < length ts) × (last_triple ts ≡ t) =
      subst (λ (o : Option Triple). IfSome o (λ u. (0 < length ts) × (last_triple ts ≡ u))) is a.some in
      subst (Contains ts) some.1 (Contains-get_or ts (length ts - 1) (0, 0, 0) (omega (arith, some.0)))

  pub same_again : Contains ts t → SameMembers ts (ts ++ t ∷ [])
  same_again there x = (Contains-append_left ts (t ∷ []) x, λ h. by (Contains-append_cases ts (t ∷ []) x h))
    where
      only : (t ≡ x) ⊎ Contains [] x → Contains ts x
      only (inl e) = subst (Contains ts) e there
      only (inr none) = absurd (Contains-nil x none)

      by : Contains ts x ⊎ Contains (t ∷ []) x → Contains ts x
      by (inl h) = h
      by (inr h) = only (Contains-cons_cases t x [] h)

pub none_ascending : (ts : List Triple) → ts ≡ [] → AreAscendingTo None ts
none_ascending ts none = record {
  ascending = λ i lt. absurd (omega (arith, lt, ap length none));
  some = tt;
  none = none;
}
