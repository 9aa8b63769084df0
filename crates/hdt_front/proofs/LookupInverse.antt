-- Look-ups by string and by ID are inverse; the number of blocks is the least possible.
use Rattle.std.proofs.Common.{◌≡◌, ℕ, zero, suc, ◌+◌, ◌-◌, ◌*◌, ◌/◌, ◌<◌, ◌≤◌, Bool, true, false, cond, List, [], ◌∷◌}
use Rattle.std.proofs.Common.{length, get_or, Option, Some, None, refl, sym, ap, ◌∙◌, arith, subst, inl, inr, Ordering}
use Rattle.std.specs.Prelude.{option_map}
use Rattle.std.specs.Str.{bytes_eq}
use Rattle.std.specs.Ordering.{nat_cmp, is_eq}
use Rattle.std.specs.Cmp.Lexicographic.{slice_cmp}
use Rattle.std.specs.declared.cmp.Ordering.TheVariants.{Less, Equal, Greater}
use Rattle.std.proofs.lemmas.Slice.Eq.{bytes_eq-Decides}
use Rattle.std.proofs.lemmas.Map.Text.{is_eq-slice_cmp}
use Rattle.std.proofs.lemmas.Bool.{cases_lt}
use Rattle.std.proofs.Math.Nat.{lt-div-mul-add, div-mul-le_self, mul-le-mul_left}
use Rattle.hdt_front.specs.declared.section.Section.{Section}
use Rattle.hdt_wire.specs.Checks.{len_before_zero}
use Rattle.hdt_front.specs.Decoding.{is_block_start, decoded_string, after_entry, decoded_strings}
use Rattle.hdt_front.specs.Laws.FrontCodingSteps.{NoZero}
use Rattle.hdt_front.specs.Laws.ChecksSound.{string_no_zero}
use Rattle.hdt_front.specs.Laws.StringSteps.{length-decoded_strings}
use Rattle.hdt_front.proofs.StringSequence.{zero_none}
use Rattle.hdt_front.specs.StringIds.{id_of}
use Rattle.hdt_front.specs.PackedView.{block_layout}
use Rattle.hdt_front.specs.Strings.{strings_of, blocks_of, block_size}
use Rattle.hdt_front.specs.Laws.Strings.{count_is}
use Rattle.hdt_front.proofs.AscendingIds.{id_found}
use Rattle.hdt_front.proofs.CheckedBlocks.{ascends, some_block, no_strings}

some_is : (m n : ℕ) → (let o : Option ℕ = Some m in o) ≡ Some n → m ≡ n
some_is m n e = cc

record IsAt (xs : List (List ℕ)) (x : List ℕ) (n : ℕ) : Type 0 where
  pub some : 1 ≤ n
  pub within : n ≤ length xs
  pub is : get_or xs (n - 1) [] ≡ x

by_rest : (r : Option ℕ) (y : List ℕ) (ys : List (List ℕ)) (x : List ℕ) (n : ℕ) → ((m : ℕ) → r ≡ Some m → IsAt ys x m)
    → option_map (λ n. n + 1) r ≡ Some n → IsAt (y ∷ ys) x n
by_rest None y ys x n later e = absurd cc
by_rest (Some m) y ys x n later e =
    let h = later m refl in
    let next : m + 1 ≡ n = some_is (m + 1) n e in
    let up : n - 1 ≡ suc (m - 1) = omega (arith, next, h.some) in
    record {
      some = omega (arith, next);
      within = omega (arith, next, h.within);
      is = ap (λ k. get_or (y ∷ ys) k []) up
          ∙ h.is;
    }

by_first : (b : Bool) (y : List ℕ) (ys : List (List ℕ)) (x : List ℕ) (n : ℕ) → bytes_eq y x ≡ b
    → ((m : ℕ) → id_of ys x ≡ Some m → IsAt ys x m) → cond b (Some 1) (option_map (λ n. n + 1) (id_of ys x)) ≡ Some n
    → IsAt (y ∷ ys) x n
by_first true y ys x n same later e =
    let one : 1 ≡ n = some_is 1 n e in
    record {
      some = omega (arith, one);
      within = omega (arith, one);
      is = ap (λ k. get_or (y ∷ ys) (k - 1) []) (sym one)
          ∙ (bytes_eq-Decides y x).0 same;
    }
by_first false y ys x n same later e = by_rest (id_of ys x) y ys x n later e

place_is : (xs : List (List ℕ)) (x : List ℕ) (n : ℕ) → id_of xs x ≡ Some n → IsAt xs x n
unfolding id_of
place_is [] x n e = absurd cc
place_is (y ∷ ys) x n e = by_first (bytes_eq y x) y ys x n refl (λ m p. place_is ys x m p) e

pub found : (s : Section) (x : List ℕ) (n : ℕ) → id_of (strings_of s) x ≡ Some n → (1 ≤ n) × (n ≤ length (strings_of s))
    × (get_or (strings_of s) (n - 1) [] ≡ x)
found s x n e = let h = place_is (strings_of s) x n e in (h.some, h.within, h.is)

eq_is : (o : Ordering) → is_eq o ≡ true → o ≡ Equal
eq_is Less e = absurd (cc)
eq_is Equal e = refl
eq_is Greater e = absurd (cc)

same_order : (x : List ℕ) → slice_cmp nat_cmp x x ≡ Equal
same_order x = eq_is (slice_cmp nat_cmp x x) (is_eq-slice_cmp x x ∙ (bytes_eq-Decides x x).1 refl)

pub only : (s : Section) (n : ℕ) → 1 ≤ n → n ≤ length (strings_of s)
    → id_of (strings_of s) (get_or (strings_of s) (n - 1) []) ≡ Some n
unfolding strings_of
only s n some within =
    let p = s.packed in
    let back : n - 1 + 1 ≡ n = omega (arith, some) in
    id_found (strings_of s) (get_or (strings_of s) (n - 1) []) (n - 1)
    (ascends (block_layout p) p.count p.bytes.now s.read) (omega (arith, some, within))
    (same_order (get_or (strings_of s) (n - 1) []))
    ∙ ap Some back

-- ---- blocks

enough_by : (n b : ℕ) → (0 < n → 1 ≤ b) → n ≤ (n + (b - 1)) / b * b
enough_by zero b some = omega arith
enough_by (suc n) b some =
    let one = some (omega arith) in
    let below : suc n + (b - 1) < (suc n + (b - 1)) / b * b + b = lt-div-mul-add one in
    omega (arith, below, one)

pub enough : (s : Section) → length (strings_of s) ≤ blocks_of s * block_size s
unfolding blocks_of
enough s = let p = s.packed in omega (arith, count_is s, enough_by p.count p.block_size p.some)

least_by : (n b k : ℕ) → n ≤ k * b → (n + (b - 1)) / b ≤ k
least_by n b k le = elim (cases_lt k ((n + (b - 1)) / b)) [
  | inl lt ↦
      let one = some_block n b k lt in
      let more : b * (k + 1) ≤ b * ((n + (b - 1)) / b) =
      mul-le-mul_left b (let m : k + 1 ≤ (n + (b - 1)) / b = omega (arith, lt) in m) in
      absurd (omega (arith, more, div-mul-le_self (n + (b - 1)) b, le, one))
  | inr ge ↦ ge
]

pub least : (s : Section) (k : ℕ) → length (strings_of s) ≤ k * block_size s → blocks_of s ≤ k
unfolding blocks_of
least s k le = let p = s.packed in least_by p.count p.block_size k (omega (arith, le, count_is s))

none_by : (n b : ℕ) → n ≡ 0 → (n + (b - 1)) / b ≡ 0
none_by n b e = ap (λ n. (n + (b - 1)) / b) e ∙ no_strings b

pub none : (s : Section) → length (strings_of s) ≡ 0 → blocks_of s ≡ 0
unfolding blocks_of
none s e = let p = s.packed in none_by p.count p.block_size (omega (arith, e, count_is s))

unfolded_no_zero : (b n i : ℕ) (before rest : List ℕ) (k : ℕ) → NoZero before → k < n
    → NoZero (get_or (decoded_strings b n i before rest) k [])
unfolding decoded_strings
unfolded_no_zero b zero i before rest k none h = absurd (omega (arith, h))
unfolded_no_zero b (suc n) i before rest zero none h = string_no_zero (is_block_start b i) before rest none
unfolded_no_zero b (suc n) i before rest (suc k) none h =
    unfolded_no_zero b n (i + 1) (decoded_string (is_block_start b i) before rest)
    (after_entry (is_block_start b i) rest) k
    (string_no_zero (is_block_start b i) before rest none) (omega (arith, h))

pub string_has_none : (s : Section) (k : ℕ) → k < length (strings_of s) → NoZero (get_or (strings_of s) k [])
unfolding strings_of NoZero
string_has_none s k h = unfolded_no_zero s.packed.block_size s.packed.count 0 [] s.packed.bytes.now k tt
    (omega (arith, h, length-decoded_strings s.packed.block_size s.packed.count 0 [] s.packed.bytes.now))

by_none : (r : Option ℕ) → ((n : ℕ) → r ≡ Some n → ⊥) → None ≡ r
by_none (Some n) h = absurd (h n refl)
by_none None h = refl

-- A string with a zero byte is in no section.
pub zero_absent : (s : Section) (x : List ℕ) → len_before_zero x < length x → None ≡ id_of (strings_of s) x
zero_absent s x h =
    by_none (id_of (strings_of s) x) (λ n e.
    let f = found s x n e in
    let none : NoZero x = subst NoZero f.2 (string_has_none s (n - 1) (omega (arith, f.0, f.1))) in
    omega (arith, h, zero_none x none))
