-- Borrowed strings as lists of bytes: sorting and `dedup` of them, and appending to them in a loop.
use Rattle.std.proofs.Common.{◌≡◌, List, [], ◌∷◌, ◌++◌, ℕ, ◌+◌, ◌<◌, length, get_or, map, take, ap, sym, ◌∙◌, arith}
use Rattle.std.specs.List.{dedup}
use Rattle.std.specs.List.Sorted.{IsSorted, IsPermutation}
use Rattle.std.specs.Cmp.Lexicographic.{texts_ties, nat_list_cmp_total, nat_list_eq_equiv}
use Rattle.std.specs.Str.{bytes_eq}
use Rattle.std.proofs.lemmas.List.{get_or-map, length-map, take_more, map_push}
use Rattle.std.proofs.lemmas.List.Sorted.{IsPermutation-map, IsPermutation-sym, Contains-permutation}
use Rattle.std.proofs.lemmas.List.Kept.{IsStrictlySortedBy-dedup, Contains-dedup, Contains-from_dedup}
use Rattle.std.proofs.lemmas.Slice.Eq.{bytes_eq-Decides}
use Rattle.hdt_dict.specs.Laws.Strings.{map-dedup, sorted_map}
use Rattle.hdt_front.specs.Canonical.{borrowed_texts}
use Rattle.hdt_dict.specs.Strings.{BorrowedString, SameMembers}
use Rattle.hdt_front.specs.Order.{IsAscending, string_cmp}

pub ascending_dedup : (vs : List BorrowedString) → IsSorted (λ a b. string_cmp a.now b.now) vs
    → IsAscending (borrowed_texts (dedup (λ a b. bytes_eq a.now b.now) vs))
ascending_dedup vs h =
    rw (map-dedup (λ (v : BorrowedString). v.now) bytes_eq vs)
    (IsStrictlySortedBy-dedup nat_list_cmp_total texts_ties (borrowed_texts vs)
    (sorted_map (λ (v : BorrowedString). v.now) string_cmp vs h))

pub same_dedup : (vs ws : List BorrowedString) → IsPermutation ws vs
    → SameMembers (borrowed_texts (dedup (λ a b. bytes_eq a.now b.now) vs)) (borrowed_texts ws)
same_dedup vs ws moved =
    let f = λ (v : BorrowedString). v.now in
    let there = IsPermutation-map f ws vs moved in
    rw (map-dedup f bytes_eq vs)
    (λ x. (
      λ h. Contains-permutation _ _ x (IsPermutation-sym _ _ there) (Contains-from_dedup bytes_eq _ x h),
      λ h. Contains-dedup nat_list_eq_equiv (λ a b. (bytes_eq-Decides a b).0) _ x
          (Contains-permutation _ _ x there h),
    ))

module _ {X Y : Type 0} (f : X → List ℕ) (g : Y → List ℕ) where
  -- one more string with the same bytes is appended
  pub one_more : (vs : List X) (ws : List Y) (i : ℕ) (v : X) (w : Y) → i < length vs → f (get_or vs i v) ≡ g w
      → map g ws ≡ take i (map f vs) → map g (ws ++ w ∷ []) ≡ take (i + 1) (map f vs)
  one_more vs ws i v w below same front =
      let at : get_or (map f vs) i (g w) ≡ g w = get_or-map f vs i v (g w) below ∙ same in
      let within : i < length (map f vs) = omega (arith, length-map vs f) in
      map_push g ws w ∙ ap (λ l. l ++ g w ∷ []) front ∙ ap (λ x. take i (map f vs) ++ x ∷ []) (sym at)
      ∙ sym (take_more (map f vs) i (g w) within)
