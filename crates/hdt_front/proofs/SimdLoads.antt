-- From the comparison mask of one load to a run of bytes.
use Rattle.std.proofs.Common.{◌≡◌, ℕ, zero, suc, ◌+◌, ◌^◌, ◌%◌, ◌<◌, ◌≤◌, Bool, true, false, not, cond, List, [], ◌∷◌}
use Rattle.std.proofs.Common.{length, map, take, drop, nat_eq, min, refl, sym, ap, ◌∙◌, arith, w8, get_or, Fits, nat_lt}
use Rattle.std.proofs.Common.{ltb-true, inl, inr, length-take-le, ◌&&◌}
use Rattle.std.proofs.lemmas.List.{map-id, length-map, get_or-take, get_or_past}
use Rattle.std.proofs.lemmas.Simd.{tops_compared, mask_l-mod, first_set_mask_l, length-zip2, length-chunk, map-map}
use Rattle.std.proofs.lemmas.Simd.{get_or-chunk}
use Rattle.std.proofs.lemmas.Bool.{agree_below, agree_below_at, cases_lt, eq-eqb}
use Rattle.std.proofs.lemmas.List.Sums.{prefix_len_passes, position_or_len_is}
use Rattle.std.proofs.lemmas.Str.{is_utf8-from_IsUtf8, IsUtf8-from_ascii}
use Rattle.std.specs.Str.{is_utf8}
use Rattle.std.specs.List.{common_prefix_len, prefix_len}
use Rattle.std.proofs.lemmas.List.Sums.{common_prefix_len-le}
use lib.Lanes.{chunk, mask_l, top, zip2}
use Rattle.hdt_wire.specs.Checks.{len_before_zero}
use Rattle.hdt_wire.specs.Masks.{first_set}
use Rattle.hdt_front.specs.Inside.LoadRuns.{IsLoadRun, is_nonzero_ascii, ascii_run}

abbrev lcp_len : List ℕ → List ℕ → ℕ
lcp_len a b = common_prefix_len nat_eq a b

abbrev differ : ℕ → ℕ → Bool
differ x y = not (nat_eq x y)

record PrefixLcp (n : ℕ) (x y : List ℕ) : Type 0 where
  few : lcp_len (take n x) (take n y) ≤ n
  less : lcp_len (take n x) (take n y) ≤ lcp_len x y
  stop : lcp_len (take n x) (take n y) < n → lcp_len (take n x) (take n y) ≡ lcp_len x y

front_step : (same : Bool) (k m n : ℕ) → k ≤ n → k ≤ m → (k < n → k ≡ m)
    → (cond same (1 + k) 0 ≤ suc n) × (cond same (1 + k) 0 ≤ cond same (1 + m) 0)
    × (cond same (1 + k) 0 < suc n → cond same (1 + k) 0 ≡ cond same (1 + m) 0)
front_step true k m n few less stop =
    (omega (arith, few), omega (arith, less), λ h. omega (arith, stop (omega (arith, h))))
front_step false k m n few less stop = (omega arith, omega arith, λ _. refl)

-- The common prefix of prefixes is that of the strings, up to the length of the prefixes.
front_agrees : (n : ℕ) (x y : List ℕ) → PrefixLcp n x y
front_agrees zero x y = record { few = omega arith; less = omega arith; stop = λ h. absurd (omega (arith, h)) }
front_agrees (suc n) [] y = record { few = omega arith; less = omega arith; stop = λ _. refl }
front_agrees (suc n) (a ∷ x) [] = record { few = omega arith; less = omega arith; stop = λ _. refl }
front_agrees (suc n) (a ∷ x) (b ∷ y) =
    let f = front_agrees n x y in
    let s = front_step (nat_eq a b) (lcp_len (take n x) (take n y)) (lcp_len x y) n f.few f.less f.stop in
    record { few = s.0; less = s.1; stop = s.2 }

behind_step : (same : Bool) (i k m : ℕ) → suc i ≤ cond same (1 + m) 0 → (i ≤ m → i + k ≡ m)
    → suc i + k ≡ cond same (1 + m) 0
behind_step true i k m h e = omega (arith, e (omega (arith, h)))
behind_step false i k m h e = absurd (omega (arith, h))

-- After equal bytes, the common prefix is the rest of that of the strings.
lcp_after_prefix : (i : ℕ) (a b : List ℕ) → i ≤ lcp_len a b → i + lcp_len (drop i a) (drop i b) ≡ lcp_len a b
lcp_after_prefix zero a b h = omega arith
lcp_after_prefix (suc i) [] b h = absurd (omega (arith, h))
lcp_after_prefix (suc i) (x ∷ a) [] h = absurd (omega (arith, h))
lcp_after_prefix (suc i) (x ∷ a) (y ∷ b) h =
    behind_step (nat_eq x y) i (lcp_len (drop i a) (drop i b)) (lcp_len a b) h (λ k. lcp_after_prefix i a b k)

zip_step : (same : Bool) (k m : ℕ) → k ≡ m → cond (not (not same)) (1 + k) 0 ≡ cond same (1 + m) 0
zip_step true k m e = ap (λ n. 1 + n) e
zip_step false k m e = refl

-- The first lane that differs ends the common prefix.
lcp_zip : (x y : List ℕ) → prefix_len not (zip2 differ x y) ≡ lcp_len x y
lcp_zip [] y = refl
lcp_zip (a ∷ x) [] = refl
lcp_zip (a ∷ x) (b ∷ y) = zip_step (nat_eq a b) (prefix_len not (zip2 differ x y)) (lcp_len x y) (lcp_zip x y)

-- Comparing two loads lane by lane gives their common prefix.
pub lcp_load : (a b : List ℕ) (i n r : ℕ) → i + n ≤ length a → i + n ≤ length b → n ≤ 64 → i ≤ lcp_len a b
    → r ≡ first_set (mask_l (map (top 7) (zip2 (λ x y. cond (differ x y) 255 0) (chunk i n a) (chunk i n b))) % 2 ^ 64)
    n → IsLoadRun (lcp_len a b) i n r
lcp_load a b i n r in_a in_b few so_far found =
    let x = chunk i n a in
    let y = chunk i n b in
    let ms = zip2 differ x y in
    let long : length ms ≡ n = length-zip2 differ x y (length-chunk i n a in_a ∙ sym (length-chunk i n b in_b))
    ∙ length-chunk i n a in_a in
    let mask = ap (λ (l : List Bool). mask_l l % 2 ^ 64) (tops_compared w8 differ x y ∙ sym (map-id ms))
    ∙ mask_l-mod (map (λ (m : Bool). m) ms) 64 (omega (arith, long, length-map ms (λ (m : Bool). m))) in
    let counted : r ≡ lcp_len x y = found ∙ ap (λ (m : ℕ). first_set m n) mask
    ∙ first_set_mask_l (λ (m : Bool). m) ms n long few ∙ lcp_zip x y in
    let f = front_agrees n (drop i a) (drop i b) in
    let all = lcp_after_prefix i a b so_far in
    record {
      within = omega (arith, counted, f.few);
      so_far = omega (arith, counted, f.less, all);
      stop = λ h. omega (arith, counted, f.stop (omega (arith, counted, h)), all);
    }

-- The common prefix is no longer than the shorter string.
pub lcp_le_min : (a b : List ℕ) → common_prefix_len nat_eq a b ≤ min (length a) (length b)
lcp_le_min a b = let bound = common_prefix_len-le nat_eq a b in omega (arith, bound)

record FrontRuns (test : ℕ → Bool) (n : ℕ) (x : List ℕ) : Type 0 where
  few : prefix_len test (take n x) ≤ n
  less : prefix_len test (take n x) ≤ prefix_len test x
  stop : prefix_len test (take n x) < n → prefix_len test (take n x) ≡ prefix_len test x

-- A run at the start of a prefix is one of all bytes, up to the length of the prefix.
front_runs : (test : ℕ → Bool) (n : ℕ) (x : List ℕ) → FrontRuns test n x
front_runs test zero x = record { few = omega arith; less = omega arith; stop = λ h. absurd (omega (arith, h)) }
front_runs test (suc n) [] = record { few = omega arith; less = omega arith; stop = λ _. refl }
front_runs test (suc n) (a ∷ x) =
    let f = front_runs test n x in
    let s = front_step (test a) (prefix_len test (take n x)) (prefix_len test x) n f.few f.less f.stop in
    record { few = s.0; less = s.1; stop = s.2 }

behind_runs : (test : ℕ → Bool) (i : ℕ) (x : List ℕ) → i ≤ prefix_len test x
    → i + prefix_len test (drop i x) ≡ prefix_len test x
behind_runs test zero x h = omega arith
behind_runs test (suc i) [] h = absurd (omega (arith, h))
behind_runs test (suc i) (a ∷ x) h =
    behind_step (test a) i (prefix_len test (drop i x)) (prefix_len test x) h (λ k. behind_runs test i x k)

same_step : (p q : Bool) (k m : ℕ) → p ≡ q → k ≡ m → cond p (1 + k) 0 ≡ cond q (1 + m) 0
same_step true true k m e f = ap (λ n. 1 + n) f
same_step false false k m e f = refl
same_step true false k m e f = absurd (cc)
same_step false true k m e f = absurd (cc)

-- Two tests that are equal on each byte have the same run.
same_runs : (p q : ℕ → Bool) (v : List ℕ) → agree_below p q 256 ≡ true → ((k : ℕ) → k < length v → get_or v k 0 < 256)
    → prefix_len p v ≡ prefix_len q v
same_runs p q [] all fits = refl
same_runs p q (a ∷ v) all fits =
    same_step (p a) (q a) (prefix_len p v) (prefix_len q v) (agree_below_at p q 256 a all (fits 0 (omega arith)))
    (same_runs p q v all (λ k h. fits (suc k) (omega (arith, h))))

-- The lanes z were computed from a load, and a byte passes the test exactly if the top bit of its lane is clear. Then
-- the lowest set bit of the mask ends the run.
pub load_runs : (test : ℕ → Bool) (d : List ℕ) (i n r : ℕ) (z : List ℕ) → i + n ≤ length d → n ≤ 64
    → ((k : ℕ) → Fits w8 (get_or d k 0)) → i ≤ prefix_len test d
    → r ≡ first_set (mask_l (map (top 7) z) % 2 ^ 64) n → (f : ℕ → ℕ) → z ≡ map f (chunk i n d)
    → agree_below (λ x. not (top 7 (f x))) test 256 ≡ true → IsLoadRun (prefix_len test d) i n r
load_runs test d i n r z buffer few fits so_far found f lanes all =
    let v = chunk i n d in
    let long = length-chunk i n d buffer in
    let p = λ (x : ℕ). top 7 (f x) in
    let clear = λ (x : ℕ). not (p x) in
    let mask = ap (λ l. mask_l l % 2 ^ 64) (ap (map (top 7)) lanes ∙ map-map (top 7) f v)
    ∙ mask_l-mod (map p v) 64 (omega (arith, long, length-map v p)) in
    let bytes : (k : ℕ) → k < length v → get_or v k 0 < 256 =
    λ k h. omega (arith, get_or-chunk i n d k 0 (omega (arith, h, long)), (fits (i + k)).fits) in
    let counted : r ≡ prefix_len test v = found ∙ ap (λ (m : ℕ). first_set m n) mask ∙ first_set_mask_l p v n long few
    ∙ same_runs clear test v all bytes in
    let front = front_runs test n (drop i d) in
    let behind = behind_runs test i d so_far in
    record {
      within = omega (arith, counted, front.few);
      so_far = omega (arith, counted, front.less, behind);
      stop = λ h. omega (arith, counted, front.stop (omega (arith, counted, h)), behind);
    }

-- After bytes that are not zero, the search for the first zero byte goes on.
pub zero_behind : (i : ℕ) (x : List ℕ) → i ≤ len_before_zero x → i + len_before_zero (drop i x) ≡ len_before_zero x
zero_behind i x h = behind_runs (λ b. not (nat_eq b 0)) i x h

plain_parts : (zero_byte ascii : Bool) → (not zero_byte && ascii) ≡ true → (zero_byte ≡ false) × (ascii ≡ true)
plain_parts true ascii h = absurd (cc)
plain_parts false ascii h = (refl, h)

no_zero : (c : ℕ) → is_nonzero_ascii c ≡ true → (nat_eq c 0 ≡ false) × (c < 128)
no_zero c h = let p = plain_parts (nat_eq c 0) (nat_lt c 128) h in (p.0, ltb-true c 128 p.1)

ascii_at : (x : List ℕ) (n i : ℕ) → n ≤ ascii_run x → n < length x → get_or (take n x) i 0 < 128
ascii_at x n i plain inside =
    elim (cases_lt i n) [
      | inl here ↦ omega (
        arith,
        get_or-take n x i 0 here,
        (no_zero (get_or x i 0) (prefix_len_passes is_nonzero_ascii x i 0 (omega (arith, here, plain)))).1,
      )
      | inr past ↦ omega (
        arith,
        get_or_past (take n x) i 0 (omega (arith, length-take-le n x (omega (arith, inside)), past)),
      )
    ]

-- Each byte of a run of nonzero ASCII bytes is below 128.
pub ascii_byte : (x : List ℕ) (i : ℕ) → i < ascii_run x → get_or x i 0 < 128
ascii_byte x i h = (no_zero (get_or x i 0) (prefix_len_passes is_nonzero_ascii x i 0 h)).1

-- Such a run up to a zero byte is an ASCII text, so it is UTF-8.
pub ascii_text_at_front : (x : List ℕ) (n : ℕ) → n ≤ ascii_run x → n < length x → get_or x n 0 ≡ 0
    → (n ≡ len_before_zero x) × (is_utf8 (take n x) ≡ true)
ascii_text_at_front x n plain inside ends = (
  sym (position_or_len_is (λ b. nat_eq b 0) x n 0 (omega (arith, inside))
      (λ k h. (no_zero (get_or x k 0) (prefix_len_passes is_nonzero_ascii x k 0 (omega (arith, h, plain)))).0)
      (λ _. eq-eqb _ _ ends)),
  is_utf8-from_IsUtf8 (take n x) (IsUtf8-from_ascii (take n x) (λ i. ascii_at x n i plain inside)),
)
