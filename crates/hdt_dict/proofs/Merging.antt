-- The next string of two ascending lists that are merged.
use Rattle.std.proofs.Common.{◌≡◌, ◌≢◌, ℕ, ◌+◌, ◌<◌, ◌≤◌, ◌⊎◌, true, false, List, [], length, get_or, below_more, refl}
use Rattle.std.proofs.Common.{ap, sym, ◌∙◌, inl, inr, arith, eq-or-lt_of_le}
use Rattle.std.specs.declared.cmp.Ordering.{Ordering}
use Rattle.std.specs.declared.cmp.Ordering.TheVariants.{Less, Equal, Greater}
use Rattle.std.specs.Ordering.{ordering_reverse}
use Rattle.std.specs.Cmp.Lexicographic.{nat_list_cmp_total}
use Rattle.std.specs.Str.{bytes_eq}
use Rattle.std.proofs.lemmas.Cmp.{tied_itself}
use Rattle.std.proofs.lemmas.List.{get_or_default}
use Rattle.std.proofs.lemmas.Map.Lookups.{exact_bytes}
use Rattle.std.proofs.lemmas.Map.Keys.{Less-from_sorted}
use Rattle.std.proofs.lemmas.Slice.Eq.{bytes_eq-Decides}
use Rattle.hdt_dict.specs.Laws.Merge.{has_here, has_past}
use Rattle.hdt_dict.specs.Inside.Merging.{ArePassed, IsNextInFirstOnly, AreNextInBoth}
use Rattle.hdt_front.specs.Order.{IsAscending, string_cmp}
use Rattle.hdt_dict.specs.Laws.Strings.{Contains-has}

itself : (x : List ℕ) → string_cmp x x ≡ Equal
itself x = tied_itself nat_list_cmp_total x

-- the comparison reversed
pub turned : (x y : List ℕ) → string_cmp x y ≡ Greater → string_cmp y x ≡ Less
turned x y h = nat_list_cmp_total.antisymm y x ∙ ap ordering_reverse h

less_turned : (x y : List ℕ) → string_cmp x y ≡ Less → string_cmp y x ≡ Greater
less_turned x y h = nat_list_cmp_total.antisymm y x ∙ ap ordering_reverse h

not_less : (o : Ordering) → o ≡ Greater → o ≢ Less
not_less o e less = let bad : Greater ≡ Less = sym e ∙ less in cc

differ : (x y : List ℕ) → string_cmp x y ≡ Less → (b : _) → bytes_eq y x ≡ b → b ≡ false
differ x y less true e = let bad : Less ≡ Equal = sym less ∙ ap (string_cmp x) ((bytes_eq-Decides y x).0 e)
    ∙ itself x in cc
differ x y less false e = refl

-- a string that is less than one string is less than all after it
less_on : (ys : List (List ℕ)) (j m : ℕ) (x : List ℕ) → IsAscending ys → string_cmp x (get_or ys j []) ≡ Less
    → (j ≡ m) ⊎ (j < m) → m < length ys → string_cmp x (get_or ys m []) ≡ Less
less_on ys j m x up less (inl e) within = ap (λ k. string_cmp x (get_or ys k [])) (sym e) ∙ less
less_on ys j m x up less (inr after) within =
    nat_list_cmp_total.trans x (get_or ys j []) (get_or ys m []) less
    (Less-from_sorted string_cmp ys j m [] up after within)

-- one more string is passed
pass_one : (xs ys : List (List ℕ)) (i j : ℕ) → i < length xs → ArePassed xs i ys j → (k : ℕ) → j ≤ k
    → ((m : ℕ) → k ≤ m → m < length ys → string_cmp (get_or xs i []) (get_or ys m []) ≡ Less)
    → ArePassed xs (i + 1) ys k
pass_one xs ys i j here passed k after less m from within =
    let y = get_or ys m [] in
    below_more _ _ (passed m (omega (arith, after, from)) within)
    (ap (λ z. string_cmp z y) (get_or_default xs i y [] here) ∙ less m from within)

pub less_alone : (xs ys : List (List ℕ)) (i j : ℕ) → IsAscending ys → i < length xs → j < length ys
    → ArePassed xs i ys j → ArePassed ys j xs i → string_cmp (get_or xs i []) (get_or ys j []) ≡ Less
    → IsNextInFirstOnly xs i ys j
less_alone xs ys i j up here there xs_passed ys_passed less =
    let x = get_or xs i [] in
    let y = get_or ys j [] in
    let same : get_or ys j x ≡ y = get_or_default ys j x [] there in
    let more = not_less (string_cmp (get_or ys j x) x) (ap (λ z. string_cmp z x) same ∙ less_turned x y less) in
    record {
      within = here;
      lacks = sym (has_here ys j x up (ys_passed i (omega arith) here) there more y same)
          ∙ differ x y less (bytes_eq y x) refl;
      passed = pass_one xs ys i j here xs_passed j (omega arith)
          (λ m from within. less_on ys j m x up less (eq-or-lt_of_le from) within);
      ahead = λ m from within. ys_passed m (omega (arith, from)) within;
    }

pub past_alone : (xs ys : List (List ℕ)) (i j : ℕ) → IsAscending ys → i < length xs → length ys ≤ j
    → ArePassed ys j xs i → IsNextInFirstOnly xs i ys j
past_alone xs ys i j up here past ys_passed = record {
  within = here;
  lacks = sym (has_past ys j (get_or xs i []) up (ys_passed i (omega arith) here) past);
  passed = λ m from within. absurd (omega (arith, from, within, past));
  ahead = λ m from within. ys_passed m (omega (arith, from)) within;
}

pub equal_both : (xs ys : List (List ℕ)) (i j : ℕ) → IsAscending xs → IsAscending ys → i < length xs → j < length ys
    → ArePassed xs i ys j → ArePassed ys j xs i
    → string_cmp (get_or xs i []) (get_or ys j []) ≡ Equal → AreNextInBoth xs i ys j
equal_both xs ys i j up_x up_y here there xs_passed ys_passed equal =
    let x = get_or xs i [] in
    let y = get_or ys j [] in
    let same : x ≡ y = exact_bytes x y equal in
    record {
      first_within = here;
      second_within = there;
      second_has = Contains-has ys x (j, there, get_or_default ys j x [] there ∙ sym same);
      first_has = Contains-has xs y (i, here, get_or_default xs i y [] here ∙ same);
      first_passed = pass_one xs ys i j here xs_passed (j + 1) (omega arith)
          (λ m from within. ap (λ z. string_cmp z (get_or ys m [])) same
          ∙ Less-from_sorted string_cmp ys j m [] up_y (omega (arith, from)) within);
      second_passed = pass_one ys xs j i there ys_passed (i + 1) (omega arith)
          (λ m from within. ap (λ z. string_cmp z (get_or xs m [])) (sym same)
          ∙ Less-from_sorted string_cmp xs i m [] up_x (omega (arith, from)) within);
    }
