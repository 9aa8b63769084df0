-- The ID of a string in an ascending list.
use Rattle.std.proofs.Common.{◌≡◌, ℕ, zero, suc, ◌+◌, ◌-◌, ◌<◌, ◌≤◌, true, false, cond, List, [], ◌∷◌, length, get_or}
use Rattle.std.proofs.Common.{Option, Some, None, refl, sym, ap, ◌∙◌, arith, Ordering, inl, inr, ◌⊎◌}
use Rattle.std.specs.Prelude.{option_map}
use Rattle.std.specs.declared.cmp.Ordering.TheVariants.{Less, Equal, Greater}
use Rattle.std.specs.Ordering.{nat_cmp, is_eq, ordering_reverse}
use Rattle.std.specs.Cmp.Lexicographic.{slice_cmp}
use Rattle.std.proofs.lemmas.Cmp.{nat_list_cmp_total, alike_right}
use Rattle.std.proofs.lemmas.Map.Text.{is_eq-slice_cmp}
use Rattle.hdt_front.specs.StringIds.{id_of}

abbrev order : List ℕ → List ℕ → Ordering
order x y = slice_cmp nat_cmp x y

found_step : (r : Option ℕ) (j : ℕ) → r ≡ Some (j + 1) → option_map (λ n. n + 1) r ≡ Some (suc j + 1)
found_step r j e = ap (option_map (λ n. n + 1)) e ∙ ap Some (let k : j + 1 + 1 ≡ suc j + 1 = omega arith in k)

id_at : (xs : List (List ℕ)) (x : List ℕ) (j : ℕ) → j < length xs
    → ((i : ℕ) → i < j → is_eq (order (get_or xs i []) x) ≡ false) → is_eq (order (get_or xs j []) x) ≡ true
    → id_of xs x ≡ Some (j + 1)
unfolding id_of
id_at [] x j h lower here = absurd (omega (arith, h))
id_at (y ∷ ys) x zero h lower here =
    ap (λ b. cond b (Some 1) (option_map (λ n. n + 1) (id_of ys x))) (sym (is_eq-slice_cmp y x) ∙ here)
id_at (y ∷ ys) x (suc j) h lower here =
    ap (λ b. cond b (Some 1) (option_map (λ n. n + 1) (id_of ys x))) (sym (is_eq-slice_cmp y x) ∙ lower 0 (omega arith))
    ∙ found_step (id_of ys x) j (id_at ys x j (omega (arith, h)) (λ i k. lower (suc i) (omega (arith, k))) here)

id_none : (xs : List (List ℕ)) (x : List ℕ) → ((i : ℕ) → i < length xs → is_eq (order (get_or xs i []) x) ≡ false)
    → id_of xs x ≡ None
unfolding id_of
id_none [] x apart = refl
id_none (y ∷ ys) x apart =
    ap (λ b. cond b (Some 1) (option_map (λ n. n + 1) (id_of ys x))) (sym (is_eq-slice_cmp y x) ∙ apart 0 (omega arith))
    ∙ ap (option_map (λ n. n + 1)) (id_none ys x (λ i k. apart (suc i) (omega (arith, k))))

-- Each string is less than the next one.
pub record Ascends (xs : List (List ℕ)) : Type 0 where
  pub next : (i : ℕ) → i + 1 < length xs → order (get_or xs i []) (get_or xs (i + 1) []) ≡ Less

later : (xs : List (List ℕ)) (i d : ℕ) → Ascends xs → i + suc d < length xs
    → order (get_or xs i []) (get_or xs (i + suc d) []) ≡ Less
later xs i zero a h = let one : i + 1 ≡ i + suc zero = omega arith in
    ap (λ k. order (get_or xs i []) (get_or xs k [])) (sym one) ∙ a.next i (omega (arith, h))
later xs i (suc d) a h =
    let up : i + suc d + 1 ≡ i + suc (suc d) = omega arith in
    nat_list_cmp_total.trans (get_or xs i []) (get_or xs (i + suc d) []) (get_or xs (i + suc (suc d)) [])
    (later xs i d a (omega (arith, h)))
    (ap (λ k. order (get_or xs (i + suc d) []) (get_or xs k [])) (sym up) ∙ a.next (i + suc d) (omega (arith, h)))

pub after : (xs : List (List ℕ)) (i j : ℕ) → Ascends xs → i < j → j < length xs
    → order (get_or xs i []) (get_or xs j []) ≡ Less
after xs i j a h k =
    let e : i + suc (j - i - 1) ≡ j = omega (arith, h) in
    ap (λ m. order (get_or xs i []) (get_or xs m [])) (sym e) ∙ later xs i (j - i - 1) a (omega (arith, h, k))

pub id_found : (xs : List (List ℕ)) (x : List ℕ) (j : ℕ) → Ascends xs → j < length xs → order (get_or xs j []) x ≡ Equal
    → id_of xs x ≡ Some (j + 1)
id_found xs x j a h e =
    id_at xs x j h (λ i k. ap is_eq (sym (alike_right nat_list_cmp_total (get_or xs j []) x (get_or xs i []) e)
    ∙ after xs i j a k h)) (ap is_eq e)

below : (xs : List (List ℕ)) (x : List ℕ) (i j : ℕ) → Ascends xs → i ≤ j → j < length xs
    → order (get_or xs j []) x ≡ Less → order (get_or xs i []) x ≡ Less
below xs x i j a h k e = elim (split i j h) [
  | inl lt ↦ nat_list_cmp_total.trans (get_or xs i []) (get_or xs j []) x (after xs i j a lt k) e
  | inr same ↦ ap (λ m. order (get_or xs m []) x) same ∙ e
]
  where
    split : (i j : ℕ) → i ≤ j → (i < j) ⊎ (i ≡ j)
    split i j h = grind arith

turned : (x y : List ℕ) (o : Ordering) → order x y ≡ o → order y x ≡ ordering_reverse o
turned x y o e = nat_list_cmp_total.antisymm y x ∙ ap ordering_reverse e

above : (xs : List (List ℕ)) (x : List ℕ) (i j : ℕ) → Ascends xs → j ≤ i → i < length xs
    → order (get_or xs j []) x ≡ Greater → order (get_or xs i []) x ≡ Greater
above xs x i j a h k e = elim (split j i h) [
  | inl lt ↦ turned x (get_or xs i []) Less
      (nat_list_cmp_total.trans x (get_or xs j []) (get_or xs i []) (turned (get_or xs j []) x Greater e)
      (after xs j i a lt k))
  | inr same ↦ ap (λ m. order (get_or xs m []) x) (sym same) ∙ e
]
  where
    split : (i j : ℕ) → i ≤ j → (i < j) ⊎ (i ≡ j)
    split i j h = grind arith

pub id_absent : (xs : List (List ℕ)) (x : List ℕ) (j : ℕ) → Ascends xs → j ≤ length xs
    → (0 < j → order (get_or xs (j - 1) []) x ≡ Less) → (j < length xs → order (get_or xs j []) x ≡ Greater)
    → id_of xs x ≡ None
id_absent xs x j a h less more = id_none xs x (λ i k. elim (side i j) [
  | inl lt ↦ ap is_eq (below xs x i (j - 1) a (omega (arith, lt)) (omega (arith, h, lt)) (less (omega (arith, lt))))
  | inr ge ↦ ap is_eq (above xs x i j a ge k (more (omega (arith, ge, k))))
])
  where
    side : (i j : ℕ) → (i < j) ⊎ (j ≤ i)
    side i j = grind arith
