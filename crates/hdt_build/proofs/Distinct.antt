-- The strings of a role are distinct, so a string has one ID.
use Rattle.std.proofs.Common.{◌≡◌, ℕ, ◌-◌, ◌<◌, ◌≤◌, List, [], ◌++◌, length, get_or, refl, ap, sym, ◌∙◌, subst, inl}
use Rattle.std.proofs.Common.{inr, arith}
use Rattle.std.specs.List.{Contains}
use Rattle.std.specs.Cmp.Lexicographic.{nat_list_cmp_total}
use Rattle.std.proofs.lemmas.Bool.{cases_lt}
use Rattle.std.proofs.lemmas.Cmp.{tied_itself}
use Rattle.std.proofs.lemmas.List.{get_or_append_left, get_or-append_right, length-append}
use Rattle.std.proofs.lemmas.List.Elements.{Contains-get_or}
use Rattle.std.proofs.lemmas.Map.Keys.{Less-from_sorted}
use Rattle.hdt_front.specs.Order.{IsAscending, string_cmp}
use Rattle.hdt_dict.specs.Split.{IsSplit}
use Rattle.hdt_build.specs.Inside.Rewriting.{string_of_id}
use Rattle.hdt_build.proofs.StringsOfIds.{term_is}
use Rattle.hdt_dict.specs.Dictionary.{SectionLists, role_strings}
use Rattle.hdt_wire.specs.declared.Role.TheVariants.{Subject, Predicate, Object}

-- equal strings have the same index
pub record Distinct (xs : List (List ℕ)) : Type 0 where
  pub one : (i j : ℕ) → i < length xs → j < length xs → get_or xs i [] ≡ get_or xs j [] → i ≡ j

apart : (xs : List (List ℕ)) → IsAscending xs → (i j : ℕ) → i < j → j < length xs → get_or xs i [] ≡ get_or xs j [] → ⊥
apart xs up i j lt in' same =
    let e = Less-from_sorted string_cmp xs i j [] up lt in' in
    let f = tied_itself nat_list_cmp_total (get_or xs j []) in
    let g = ap (λ x. string_cmp x (get_or xs j [])) same in
    cc

pub Distinct-ascending : (xs : List (List ℕ)) → IsAscending xs → Distinct xs
Distinct-ascending xs up = record {
  one = λ i j a b same.
      elim (cases_lt i j) as (λ _. i ≡ j) [
        | inl before ↦ absurd (apart xs up i j before b same)
        | inr behind ↦ elim (cases_lt j i) as (λ _. i ≡ j) [
          | inl after ↦ absurd (apart xs up j i after a (sym same))
          | inr not_after ↦ omega arith
        ]
      ];
}

module _ (xs ys : List (List ℕ)) (no_both : (x : List ℕ) → Contains xs x → Contains ys x → ⊥) where
  clash : (i j : ℕ) → i < length xs → j < length ys → get_or xs i [] ≡ get_or ys j [] → ⊥
  clash i j a b same = no_both (get_or xs i []) (Contains-get_or xs i [] a)
      (subst (Contains ys) (sym same) (Contains-get_or ys j [] b))

  at_left : (i : ℕ) → i < length xs → get_or (xs ++ ys) i [] ≡ get_or xs i []
  at_left i a = get_or_append_left xs ys [] i a

  at_right : (i : ℕ) → length xs ≤ i → get_or (xs ++ ys) i [] ≡ get_or ys (i - length xs) []
  at_right i a = get_or-append_right xs ys (length xs) i [] refl a

  pub Distinct-append : Distinct xs → Distinct ys → Distinct (xs ++ ys)
  Distinct-append p q = record {
    one = λ i j a b same.
        let size = length-append xs ys in
        elim (cases_lt i (length xs)) as (λ _. i ≡ j) [
          | inl i_left ↦ elim (cases_lt j (length xs)) as (λ _. i ≡ j) [
            | inl j_left ↦ p.one i j i_left j_left (sym (at_left i i_left) ∙ same ∙ at_left j j_left)
            | inr j_right ↦ absurd (clash i (j - length xs) i_left (omega arith) (sym (at_left i i_left) ∙ same
                ∙ at_right j j_right))
          ]
          | inr i_right ↦ elim (cases_lt j (length xs)) as (λ _. i ≡ j) [
            | inl j_left ↦ absurd (clash j (i - length xs) j_left (omega arith) (sym (at_left j j_left) ∙ sym same
                ∙ at_right i i_right))
            | inr j_right ↦ let e = q.one (i - length xs) (j - length xs) (omega arith) (omega arith)
                (sym (at_right i i_right) ∙ same ∙ at_right j j_right) in omega arith
          ]
        ];
  }

-- a string has one ID
pub number_unique : (terms : List (List ℕ)) → Distinct terms → (m n : ℕ) → 0 < m → m ≤ length terms → 0 < n
    → n ≤ length terms → string_of_id terms m ≡ string_of_id terms n → m ≡ n
number_unique terms h m n a b c d same = let e =
    h.one (m - 1) (n - 1) (omega arith) (omega arith) (sym (term_is terms m a) ∙ same ∙ term_is terms n c) in
    omega arith

module _ {ss ps os : List (List ℕ)} (d : SectionLists) (h : IsSplit ss ps os d) where
  pub subjects_distinct : Distinct (role_strings d Subject)
  subjects_distinct = Distinct-append d.shared d.subjects (λ x a b. ((h.subjects x).0 b).1 ((h.shared x).0 a).1)
      (Distinct-ascending _ h.shared_ascend) (Distinct-ascending _ h.subjects_ascend)

  pub predicates_distinct : Distinct (role_strings d Predicate)
  predicates_distinct = Distinct-ascending _ h.predicates_ascend

  pub objects_distinct : Distinct (role_strings d Object)
  objects_distinct = Distinct-append d.shared d.objects (λ x a b. ((h.objects x).0 b).1 ((h.shared x).0 a).0)
      (Distinct-ascending _ h.shared_ascend) (Distinct-ascending _ h.objects_ascend)
