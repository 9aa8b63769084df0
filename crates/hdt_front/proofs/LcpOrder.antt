-- The order of strings that share a prefix.
use Rattle.std.proofs.Common.{◌≡◌, ℕ, ◌+◌, ◌<◌, ◌≤◌, zero, suc, List, [], ◌∷◌, ◌++◌, length, take, drop, refl, sym, ap}
use Rattle.std.proofs.Common.{arith, Bool, true, false, nat_eq, cond, get_or, ◌∙◌, length-take-le}
use Rattle.std.proofs.Common.{Ordering, nat_lt}
use Rattle.std.specs.declared.cmp.Ordering.TheVariants.{Less, Equal, Greater}
use Rattle.std.specs.Ordering.{nat_cmp}
use Rattle.std.specs.Cmp.Lexicographic.{slice_cmp}
use Rattle.std.specs.List.{common_prefix_len}
use Rattle.std.proofs.lemmas.Bool.Decides.{nat_tests}
use Rattle.std.proofs.lemmas.List.Sums.{common_prefix_len-le}
use Rattle.hdt_wire.specs.Checks.{len_before_zero}
use Rattle.hdt_front.specs.Laws.CommonPrefix.{both}
use Rattle.hdt_front.specs.Laws.FrontCodingSteps.{NoZero}
use Rattle.hdt_front.specs.Laws.ChecksSound.{split_zero, text_no_zero}
use Rattle.hdt_front.proofs.StringSequence.{no_zero}

abbrev pub order : List ℕ → List ℕ → Ordering
order x y = slice_cmp nat_cmp x y

abbrev pub lcp_len : List ℕ → List ℕ → ℕ
lcp_len x y = common_prefix_len nat_eq x y

pub apart : (b c : ℕ) → nat_lt b c ≡ true → nat_eq b c ≡ true → ⊥
apart b c lt eq = grind (arith, nat_tests)

rest_step : (lt eq : Bool) → (lt ≡ true → eq ≡ true → ⊥) → (o p : Ordering) (n m i k : ℕ)
    → (k ≤ n → (p ≡ o) × (m ≡ k + i))
    → suc k ≤ cond eq (1 + n) 0 → (both lt eq p ≡ o) × (cond eq (1 + m) 0 ≡ suc k + i)
rest_step true true not_both o p n m i k rest fits = absurd (not_both refl refl)
rest_step lt false not_both o p n m i k rest fits = absurd (omega (arith, fits))
rest_step false true not_both o p n m i k rest fits = let r = rest (omega (arith, fits)) in (r.0, omega (arith, r.1))

-- If it shares no more, comparing its suffix with the searched string after that prefix decides.
pub rest_decides : (k : ℕ) (last sought text : List ℕ) → k ≤ lcp_len last sought
    → (order (take k last ++ text) sought ≡ order text (drop k sought))
    × (lcp_len (take k last ++ text) sought ≡ k + lcp_len text (drop k sought))
rest_decides zero last sought text fits = (refl, omega arith)
rest_decides (suc k) [] sought text fits = absurd (omega (arith, fits))
rest_decides (suc k) (b ∷ last) [] text fits = absurd (omega (arith, fits))
rest_decides (suc k) (b ∷ last) (c ∷ sought) text fits =
    rest_step (nat_lt b c) (nat_eq b c) (apart b c) (order text (drop k sought)) (order (take k last ++ text) sought)
    (lcp_len last sought) (lcp_len (take k last ++ text) sought) (lcp_len text (drop k sought)) k
    (λ h. rest_decides k last sought text h) fits

bytes_step : (lt eq : Bool) → (lt ≡ true → eq ≡ true → ⊥) → (x y : ℕ) (a b : List ℕ) (n k : ℕ) (o : Ordering)
    → nat_cmp x y ≡ cond lt Less (cond eq Equal Greater)
    → ((j : ℕ) → j ≡ n → j < length a → j < length b → o ≡ nat_cmp (get_or a j 0) (get_or b j 0))
    → k ≡ cond eq (1 + n) 0 → k < suc (length a) → k < suc (length b)
    → both lt eq o ≡ nat_cmp (get_or (x ∷ a) k 0) (get_or (y ∷ b) k 0)
bytes_step true true not_both x y a b n k o is rest e la lb = absurd (not_both refl refl)
bytes_step true false not_both x y a b n zero o is rest e la lb = sym is
bytes_step false false not_both x y a b n zero o is rest e la lb = sym is
bytes_step true false not_both x y a b n (suc k) o is rest e la lb = absurd (omega (arith, e))
bytes_step false false not_both x y a b n (suc k) o is rest e la lb = absurd (omega (arith, e))
bytes_step false true not_both x y a b n zero o is rest e la lb = absurd (omega (arith, e))
bytes_step false true not_both x y a b n (suc k) o is rest e la lb =
    rest k (omega (arith, e)) (omega (arith, la)) (omega (arith, lb))

-- If neither string ends at the common prefix, the next bytes decide.
pub bytes_decide : (a b : List ℕ) (k : ℕ) → k ≡ lcp_len a b → k < length a → k < length b
    → order a b ≡ nat_cmp (get_or a k 0) (get_or b k 0)
bytes_decide [] b k e la lb = absurd (omega (arith, la))
bytes_decide (x ∷ a) [] k e la lb = absurd (omega (arith, lb))
bytes_decide (x ∷ a) (y ∷ b) k e la lb =
    bytes_step (nat_lt x y) (nat_eq x y) (apart x y) x y a b (lcp_len a b) k (order a b) refl
    (λ j h i l. bytes_decide a b j h i l) e la lb

lengths_step : (lt eq : Bool) → (lt ≡ true → eq ≡ true → ⊥) → (n k l m : ℕ) (o : Ordering)
    → ((j : ℕ) → j ≡ n → (j < l → m ≤ j) → o ≡ nat_cmp l m)
    → k ≡ cond eq (1 + n) 0 → (k < suc l → suc m ≤ k) → both lt eq o ≡ nat_cmp l m
lengths_step true true not_both n k l m o rest e ends = absurd (not_both refl refl)
lengths_step true false not_both n k l m o rest e ends = absurd (omega (arith, e, ends (omega (arith, e))))
lengths_step false false not_both n k l m o rest e ends = absurd (omega (arith, e, ends (omega (arith, e))))
lengths_step false true not_both n zero l m o rest e ends = absurd (omega (arith, e))
lengths_step false true not_both n (suc k) l m o rest e ends =
    rest k (omega (arith, e)) (λ h. omega (arith, ends (omega (arith, h))))

further_cmp : (l m : ℕ) → nat_cmp l m ≡ nat_cmp (suc l) (suc m)
further_cmp l m = grind (arith, nat_tests)

none_less : (m : ℕ) → nat_cmp 0 (suc m) ≡ Less
none_less m = grind (arith, nat_tests)

some_greater : (l : ℕ) → nat_cmp (suc l) 0 ≡ Greater
some_greater l = grind (arith, nat_tests)

-- If one of them ends there, the lengths decide.
pub lengths_decide : (a b : List ℕ) (k : ℕ) → k ≡ lcp_len a b → (k < length a → length b ≤ k)
    → order a b ≡ nat_cmp (length a) (length b)
lengths_decide [] [] k e ends = refl
lengths_decide [] (y ∷ b) k e ends = sym (none_less (length b))
lengths_decide (x ∷ a) [] k e ends = sym (some_greater (length a))
lengths_decide (x ∷ a) (y ∷ b) k e ends =
    rw (← further_cmp (length a) (length b))
    (lengths_step (nat_lt x y) (nat_eq x y) (apart x y) (lcp_len a b) k (length a) (length b) (order a b)
    (λ j h i. lengths_decide a b j h i) e ends)

stored_step : (lt eq : Bool) → (lt ≡ true → eq ≡ true → ⊥) → (c d : ℕ) (p x : List ℕ) (n k : ℕ) (o : Ordering)
    → nat_cmp c d ≡ cond lt Less (cond eq Equal Greater)
    → ((j : ℕ) → j ≡ n → o ≡ nat_cmp (get_or p j 0) (get_or x j 0)) → k ≡ cond eq (1 + n) 0
    → both lt eq o ≡ nat_cmp (get_or (c ∷ p) k 0) (get_or (d ∷ x) k 0)
stored_step true true not_both c d p x n k o is rest e = absurd (not_both refl refl)
stored_step true false not_both c d p x n zero o is rest e = sym is
stored_step false false not_both c d p x n zero o is rest e = sym is
stored_step true false not_both c d p x n (suc k) o is rest e = absurd (omega (arith, e))
stored_step false false not_both c d p x n (suc k) o is rest e = absurd (omega (arith, e))
stored_step false true not_both c d p x n zero o is rest e = absurd (omega (arith, e))
stored_step false true not_both c d p x n (suc k) o is rest e = rest k (omega (arith, e))

zero_first : (d : ℕ) → nat_eq d 0 ≡ false → (nat_eq 0 d ≡ false) × (Less ≡ nat_cmp 0 d)
zero_first d h = (grind (arith, nat_tests, h), grind (arith, nat_tests, h))

byte_first : (c : ℕ) → nat_eq c 0 ≡ false → Greater ≡ nat_cmp c 0
byte_first c h = grind (arith, nat_tests, h)

-- With a string without zero bytes, zero-terminated bytes have the same common prefix as their text.
pub lcp_stored : (text more x : List ℕ) → NoZero x → lcp_len ((text ++ 0 ∷ []) ++ more) x ≡ lcp_len text x
unfolding NoZero
lcp_stored [] more [] h = refl
lcp_stored [] more (d ∷ x) h = ap (λ (t : Bool). cond t (1 + lcp_len more x) 0) (zero_first d h.0).0
lcp_stored (c ∷ text) more [] h = refl
lcp_stored (c ∷ text) more (d ∷ x) h = ap (λ n. cond (nat_eq c d) (1 + n) 0) (lcp_stored text more x h.1)

-- The bytes after the common prefix decide.
pub stored_decides : (text more x : List ℕ) (k : ℕ) → NoZero text → NoZero x → k ≡ lcp_len ((text ++ 0 ∷ []) ++ more) x
    → order text x ≡ nat_cmp (get_or ((text ++ 0 ∷ []) ++ more) k 0) (get_or x k 0)
unfolding NoZero
stored_decides [] more [] zero t h e = refl
stored_decides [] more [] (suc k) t h e = absurd (omega (arith, e))
stored_decides [] more (d ∷ x) zero t h e = (zero_first d h.0).1
stored_decides [] more (d ∷ x) (suc k) t h e =
    absurd (omega (arith, e, ap (λ (t : Bool). cond t (1 + lcp_len more x) 0) (zero_first d h.0).0))
stored_decides (c ∷ text) more [] zero t h e = byte_first c t.0
stored_decides (c ∷ text) more [] (suc k) t h e = absurd (omega (arith, e))
stored_decides (c ∷ text) more (d ∷ x) k t h e =
    stored_step (nat_lt c d) (nat_eq c d) (apart c d) c d ((text ++ 0 ∷ [])
    ++ more) x (lcp_len ((text ++ 0 ∷ []) ++ more) x) k (order text x) refl
    (λ j f. stored_decides text more x j t.1 h.1 f) e

-- The order of a zero-terminated text and a string.
pub record IsStoredOrder (stored x : List ℕ) : Type 0 where
  pub order : order (take (len_before_zero stored) stored) x
      ≡ nat_cmp (get_or stored (lcp_len stored x) 0) (get_or x (lcp_len stored x) 0)
  pub same : lcp_len stored x ≡ lcp_len (take (len_before_zero stored) stored) x
  pub inside : lcp_len stored x ≤ len_before_zero stored

pub stored_order : (stored x : List ℕ) → len_before_zero stored < length stored → len_before_zero x ≡ length x
    → IsStoredOrder stored x
stored_order stored x ends sought =
    let text : List ℕ = take (len_before_zero stored) stored in
    let more : List ℕ = drop (len_before_zero stored + 1) stored in
    let split : stored ≡ (text ++ 0 ∷ []) ++ more = split_zero stored ends in
    let none = no_zero x sought in
    let same : lcp_len stored x ≡ lcp_len text x = ap (λ (s : List ℕ). lcp_len s x) split
    ∙ lcp_stored text more x none in
    record {
      order = stored_decides text more x (lcp_len stored x) (text_no_zero stored) none
          (ap (λ (s : List ℕ). lcp_len s x) split)
          ∙ ap (λ (s : List ℕ). nat_cmp (get_or s (lcp_len stored x) 0) (get_or x (lcp_len stored x) 0)) (sym split);
      same = same;
      inside = omega (
        arith,
        same,
        (common_prefix_len-le nat_eq text x).0,
        length-take-le (len_before_zero stored) stored (omega (arith, ends)),
      );
    }

-- Strings whose first k bytes are equal compare as the rest of them.
pub drop_decides : (k : ℕ) (a b : List ℕ) → k ≤ lcp_len a b → (order a b ≡ order (drop k a) (drop k b))
    × (lcp_len a b ≡ k + lcp_len (drop k a) (drop k b))
drop_decides zero a b fits = (refl, omega arith)
drop_decides (suc k) [] b fits = absurd (omega (arith, fits))
drop_decides (suc k) (x ∷ a) [] fits = absurd (omega (arith, fits))
drop_decides (suc k) (x ∷ a) (y ∷ b) fits =
    rest_step (nat_lt x y) (nat_eq x y) (apart x y) (order (drop k a) (drop k b)) (order a b) (lcp_len a b)
    (lcp_len a b) (lcp_len (drop k a) (drop k b)) k
    (λ h. drop_decides k a b h) fits

itself : (b : ℕ) → nat_eq b b ≡ true
itself b = grind (arith, nat_tests)

-- A string has at least its shared prefix in common with the previous one.
pub lcp_at_least_kept : (k : ℕ) (last text : List ℕ) → k ≤ length last → k ≤ lcp_len (take k last ++ text) last
lcp_at_least_kept zero last text fits = omega arith
lcp_at_least_kept (suc k) [] text fits = absurd (omega (arith, fits))
lcp_at_least_kept (suc k) (b ∷ last) text fits =
    omega (
      arith,
      lcp_at_least_kept k last text (omega (arith, fits)),
      ap (λ (t : Bool). cond t (1 + lcp_len (take k last ++ text) last) 0) (itself b),
    )
