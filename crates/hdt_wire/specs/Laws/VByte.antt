-- Laws of VByte numbers: each has one encoding, which is no prefix of another, and the reader returns exactly what is
-- encoded.
use Rattle.std.proofs.Common.{◌≡◌, ℕ, zero, suc, ◌+◌, ◌*◌, ◌-◌, ◌/◌, ◌%◌, ◌^◌, ◌<◌, ◌≤◌, Bool, true, ◌||◌, List, []}
use Rattle.std.proofs.Common.{◌∷◌, ◌++◌, length, get_or, take, drop, leb, ltb, eqb, Result, Ok, refl, lit<, sym, ap}
use Rattle.std.proofs.Common.{subst, ◌∙◌, arith, inl, inr}
use Rattle.std.specs.Prelude.{not, ◌⊎◌, slice_range}
use Rattle.std.specs.List.{prefix_len, position_or_len}
use Rattle.std.proofs.Math.Nat.{pow-suc, pow-le-pow_right}
use Rattle.std.proofs.lemmas.Bool.{cases_lt, cases_order, leb-true, leb-false, ltb-true, lt-ltb, le-ltb, eqb-true}
use Rattle.std.proofs.lemmas.Bool.{eqb-false, or_cases}
use Rattle.std.proofs.lemmas.List.Sums.{prefix_len_passes, prefix_len_stops}
use Rattle.std.proofs.lemmas.List.{length-take, length-drop, get_or-take, take-take}
use Rattle.std.proofs.lemmas.Grind.{common_steps}
use Rattle.hdt_wire.specs.declared.fault.Fault.{Fault}
use Rattle.hdt_wire.specs.declared.fault.Reason.TheVariants.{OverlongNumber, NumberTooLarge}
use Rattle.hdt_wire.specs.Checks.{IsBytes, EncodedAt}
use Rattle.hdt_wire.specs.Laws.Checks.{demand_ok, not-true, not-false, IsBytes-take, IsBytes-drop, HasSlice-after}
use Rattle.hdt_wire.specs.VByte.{VByte, vbyte_up_to, vbyte, base128_value, window, last_digit_index, vbyte_at}

-- ---- encoding

pub digits_more : (k v : ℕ) → 128 ≤ v → vbyte_up_to (suc k) v ≡ v % 128 ∷ vbyte_up_to k (v / 128)
unfolding vbyte_up_to
digits_more k v high = rw (le-ltb v 128 high) refl

pub digits_last : (k v : ℕ) → v < 128 → vbyte_up_to k v ≡ (v + 128) ∷ []
unfolding vbyte_up_to
digits_last zero v low = refl
digits_last (suc k) v low = rw (lt-ltb v 128 low) refl

below_high : (k v : ℕ) → v < 128 ^ suc (suc k) → v / 128 < 128 ^ suc k
below_high k v lt = let wide : v < 128 ^ suc k * 128 = rw (← pow-suc 128 (suc k)) lt in omega (arith, wide)

spelled_more : (text : List ℕ) (v : ℕ) → 128 ≤ v → VByte text (v / 128) → VByte (v % 128 ∷ text) v
spelled_more [] v high h = absurd h
spelled_more (c ∷ bs) v high h = (omega arith, v / 128, omega arith, omega arith, h)

spelled_by : (k v : ℕ) → v < 128 ^ suc k → VByte (vbyte_up_to k v) v
unfolding vbyte_up_to
spelled_by zero v lt = (omega (arith, lt), refl)
spelled_by (suc k) v lt =
    elim (cases_lt v 128) [
      | inl low ↦ rw (digits_last (suc k) v low) (low, refl)
      | inr high ↦ rw (digits_more k v high)
          (spelled_more (vbyte_up_to k (v / 128)) v high (spelled_by k (v / 128) (below_high k v lt)))
    ]

-- the encoding of a number encodes it
pub vbyte_encodes : (v : ℕ) → v < 2 ^ 64 → VByte (vbyte v) v
unfolding vbyte
vbyte_encodes v lt = spelled_by 9 v (omega (arith, lt))

only_by : (text : List ℕ) (k v : ℕ) → v < 128 ^ suc k → VByte text v → text ≡ vbyte_up_to k v
only_by [] k v lt h = absurd h
only_by (b ∷ []) k v lt h = rw (digits_last k v h.0) (ap (λ (n : ℕ). n ∷ []) h.1)
only_by (b ∷ c ∷ bs) zero v lt h = absurd (omega (arith, lt, h.2, h.3))
only_by (b ∷ c ∷ bs) (suc k) v lt h =
    let high : 128 ≤ v = omega (arith, h.2, h.3) in
    let top : h.1 ≡ v / 128 = omega (arith, h.0, h.3) in
    let low : b ≡ v % 128 = omega (arith, h.0, h.3) in
    let rest : VByte (c ∷ bs) (v / 128) = rw top at h.4 in
    rw (digits_more k v high) (ap (λ (n : ℕ). n ∷ c ∷ bs) low
    ∙ ap (λ (t : List ℕ). v % 128 ∷ t) (only_by (c ∷ bs) k (v / 128) (below_high k v lt) rest))

-- nothing else encodes it
pub vbyte_unique : (text : List ℕ) (v : ℕ) → v < 2 ^ 64 → VByte text v → text ≡ vbyte v
unfolding vbyte
vbyte_unique text v lt h = only_by text 9 v (omega (arith, lt)) h

-- ---- reading

-- the index of the first byte with its top bit set
pub first_last : (seen : List ℕ) (i : ℕ) → i < length seen → ((k : ℕ) → k < i → get_or seen k 0 < 128)
    → 128 ≤ get_or seen i 0
    → position_or_len (λ b. leb 128 b) seen ≡ i
first_last seen i lt low high =
    let p : ℕ → Bool = λ b. not (leb 128 b) in
    elim (cases_order (prefix_len p seen) i) [
      | inl e ↦ e
      | inr (inl before) ↦
          let big = leb-true 128 _ (not-false _ (prefix_len_stops p seen 0 (omega arith))) in
          absurd (omega (arith, big, low (prefix_len p seen) before))
      | inr (inr after) ↦
          let small = leb-false 128 _ (not-true _ (prefix_len_passes p seen i 0 after)) in
          absurd (omega (arith, small, high))
    ]

-- if the last byte isn't 128, the bytes encode a number that isn't 0
pub spelled_high : (seen : List ℕ) (i : ℕ) → i < length seen → IsBytes seen → ((k : ℕ) → k < i → get_or seen k 0 < 128)
    → 128 < get_or seen i 0
    → VByte (take (suc i) seen) (base128_value (take (suc i) seen)) × (0 < base128_value (take (suc i) seen))
spelled_high [] i lt fits low high = absurd (omega arith)
spelled_high (b ∷ bs) zero lt fits low high = let f = fits 0 in ((omega arith, omega arith), omega arith)
spelled_high (b ∷ []) (suc i) lt fits low high = absurd (omega arith)
spelled_high (b ∷ c ∷ bs) (suc i) lt fits low high =
    let ih = spelled_high (c ∷ bs) i (omega arith) (λ k. fits (suc k)) (λ k h. low (suc k) (omega arith)) high in
    let small : b < 128 = low 0 (omega arith) in
    let n : ℕ = base128_value (take (suc i) (c ∷ bs)) in
    ((small, n, ih.1, omega arith, ih.0), omega (arith, ih.1))

spelled : (seen : List ℕ) (i : ℕ) → i < length seen → IsBytes seen → ((k : ℕ) → k < i → get_or seen k 0 < 128)
    → 128 ≤ get_or seen i 0 → (i ≡ 0) ⊎ (get_or seen i 0 ≡ 128 → ⊥)
    → VByte (take (suc i) seen) (base128_value (take (suc i) seen))
spelled seen i lt fits low high (inr ne) = (spelled_high seen i lt fits low (omega arith)).0
spelled [] i lt fits low high (inl e) = absurd (omega arith)
spelled (b ∷ bs) zero lt fits low high (inl e) = let f = fits 0 in (omega arith, omega arith)
spelled (b ∷ bs) (suc i) lt fits low high (inl e) = absurd (omega arith)

overlong : (last byte : ℕ) → (eqb last 0 || not (eqb byte 128)) ≡ true → (last ≡ 0) ⊎ (byte ≡ 128 → ⊥)
overlong last byte e =
    elim (or_cases (eqb last 0) (not (eqb byte 128)) e) [
      | inl t ↦ inl (eqb-true _ _ t)
      | inr t ↦ inr (eqb-false _ _ (not-true _ t))
    ]

abbrev done : ℕ × ℕ → Result (ℕ × ℕ) Fault
done x = Ok x

ok_is : (x y : ℕ × ℕ) → done x ≡ done y → x ≡ y
ok_is x y e = cc

-- what is returned is encoded there
pub vbyte_found : (bytes : List ℕ) (at : ℕ) (x : ℕ × ℕ) → IsBytes bytes → vbyte_at bytes at ≡ Ok x
    → EncodedAt VByte bytes at x.0 x.1
unfolding vbyte_at
vbyte_found bytes at x fits e =
    let seen : List ℕ = window bytes at in
    let last : ℕ = last_digit_index seen in
    let value : ℕ = base128_value (take (last + 1) seen) in
    demand_ok (ltb last (length seen)) at _ _ x e (λ ends e.
    demand_ok (ltb value (2 ^ 64)) at NumberTooLarge _ x e (λ small e.
    demand_ok (eqb last 0 || not (eqb (get_or seen last 0) 128)) at OverlongNumber _ x e (λ shortest e.
    let lt : last < length seen = ltb-true _ _ ends in
    let p : ℕ → Bool = λ n. not (leb 128 n) in
    let low = λ (k : ℕ) (h : k < last). leb-false 128 _ (not-true _ (prefix_len_passes p seen k 0 h)) in
    let high = leb-true 128 _ (not-false _ (prefix_len_stops p seen 0 lt)) in
    let s = spelled seen last lt (IsBytes-take 10 (drop at bytes) (IsBytes-drop at bytes fits)) low high
    (overlong last (get_or seen last 0) shortest) in
    let short : last + 1 ≤ 10 = omega (arith, lt, length-take 10 (drop at bytes)) in
    let within : at + last + 1 ≤ length bytes =
    omega (arith, lt, length-take 10 (drop at bytes), length-drop at bytes) in
    let next : suc last ≡ last + 1 = omega arith in
    let size : last + 1 ≡ at + last + 1 - at = omega arith in
    let s' : VByte (take (last + 1) seen) value =
    subst (λ (n : ℕ). VByte (take n seen) (base128_value (take n seen))) next s in
    let same : take (last + 1) seen ≡ slice_range bytes at (at + last + 1) =
    take-take (last + 1) 10 (drop at bytes) short ∙ ap (λ (n : ℕ). take n (drop at bytes)) size in
    let made : EncodedAt VByte bytes at value (at + last + 1) =
    record { in_order = omega arith; within = within; spelled = subst (λ (t : List ℕ). VByte t value) same s' } in
    subst (λ (y : ℕ × ℕ). EncodedAt VByte bytes at y.0 y.1) (ok_is _ _ e) made)))

-- a number that was read is below 2 ^ 64, has one to ten bytes, and ends within the input
pub record VByteBounds (bytes : List ℕ) (at v end : ℕ) : Type 0 where
  pub value : v < 2 ^ 64
  pub some : at < end
  pub few : end ≤ at + 10
  pub within : end ≤ length bytes

pub vbyte_bounded : (bytes : List ℕ) (at : ℕ) (x : ℕ × ℕ) → vbyte_at bytes at ≡ Ok x → VByteBounds bytes at x.0 x.1
unfolding vbyte_at
vbyte_bounded bytes at x e =
    let seen : List ℕ = window bytes at in
    let last : ℕ = last_digit_index seen in
    let value : ℕ = base128_value (take (last + 1) seen) in
    demand_ok (ltb last (length seen)) at _ _ x e (λ ends e.
    demand_ok (ltb value (2 ^ 64)) at NumberTooLarge _ x e (λ small e.
    demand_ok (eqb last 0 || not (eqb (get_or seen last 0) 128)) at OverlongNumber _ x e (λ shortest e.
    let lt : last < length seen = ltb-true _ _ ends in
    let made : VByteBounds bytes at value (at + last + 1) = record {
      value = ltb-true _ _ small;
      some = omega arith;
      few = omega (arith, lt, length-take 10 (drop at bytes));
      within = omega (arith, lt, length-take 10 (drop at bytes), length-drop at bytes);
    } in
    subst (λ (y : ℕ × ℕ). VByteBounds bytes at y.0 y.1) (ok_is _ _ e) made)))

-- the shape of an encoding: its last byte is at index i
record Ends (text : List ℕ) (v : ℕ) : Type 0 where
  pub i : ℕ
  pub len : length text ≡ suc i
  pub low : (k : ℕ) → k < i → get_or text k 0 < 128
  pub high : 128 ≤ get_or text i 0
  pub number : base128_value text ≡ v
  pub shortest : 0 < v → get_or text i 0 ≡ 128 → ⊥
  pub zero_alone : v ≡ 0 → i ≡ 0
  pub large : 0 < v → 128 ^ i ≤ v

low_cons : (b : ℕ) (bs : List ℕ) (i : ℕ) → b < 128 → ((k : ℕ) → k < i → get_or bs k 0 < 128) → (k : ℕ) → k < suc i
    → get_or (b ∷ bs) k 0 < 128
low_cons b bs i small low zero lt = small
low_cons b bs i small low (suc k) lt = low k (omega arith)

ends : (text : List ℕ) (v : ℕ) → VByte text v → Ends text v
ends [] v h = absurd h
ends (b ∷ []) v h = record {
  i = 0;
  len = refl;
  low = λ k lt. absurd (omega arith);
  high = omega (arith, h.1);
  number = omega (arith, h.0, h.1);
  shortest = λ lt e. omega (arith, h.1);
  zero_alone = λ e. refl;
  large = λ lt. omega arith;
}
ends (b ∷ c ∷ bs) v h =
    let t = ends (c ∷ bs) h.1 h.4 in
    let big = t.large h.2 in
    record {
      i = suc t.i;
      len = ap suc t.len;
      low = low_cons b (c ∷ bs) t.i h.0 t.low;
      high = t.high;
      number = omega (arith, h.0, h.3, t.number);
      shortest = λ lt e. t.shortest h.2 e;
      zero_alone = λ e. absurd (omega (arith, h.2, h.3));
      large = λ lt. omega (arith, big, h.3, pow-suc 128 t.i);
    }

short_enough : (i v : ℕ) → (0 < v → 128 ^ i ≤ v) → (v ≡ 0 → i ≡ 0) → v < 2 ^ 64 → i < 10
short_enough i v large zero_alone lt =
    elim (cases_lt i 10) [
      | inl below ↦ below
      | inr above ↦
          let huge : 128 ^ 10 ≤ 128 ^ i = pow-le-pow_right (lit< tt) above in
          absurd (grind (arith, huge, large, zero_alone))
    ]

canonical : (i byte v : ℕ) → (0 < v → byte ≡ 128 → ⊥) → (v ≡ 0 → i ≡ 0) → (eqb i 0 || not (eqb byte 128)) ≡ true
canonical i byte v shortest zero_alone = grind (arith, common_steps)

-- what is encoded there is returned
pub vbyte_only : (bytes : List ℕ) (at v end : ℕ) → v < 2 ^ 64 → EncodedAt VByte bytes at v end
    → vbyte_at bytes at ≡ Ok (v, end)
unfolding vbyte_at
vbyte_only bytes at v end lt h =
    let text : List ℕ = slice_range bytes at end in
    let rest : List ℕ = drop at bytes in
    let t = ends text v h.spelled in
    let small : t.i < 10 = short_enough t.i v t.large t.zero_alone lt in
    let size : end - at ≡ t.i + 1 =
    omega (arith, t.len, length-take (end - at) rest, length-drop at bytes, h.within, h.in_order) in
    let same : take (t.i + 1) (take 10 rest) ≡ text = take-take (t.i + 1) 10 rest (omega arith)
    ∙ ap (λ (n : ℕ). take n rest) (sym size) in
    let inside : t.i < length (take 10 rest) =
    omega (arith, length-take 10 rest, length-drop at bytes, h.within, h.in_order) in
    let reads = λ (k : ℕ) (le : k < t.i + 1). ap (λ (xs : List ℕ). get_or xs k 0) (sym same)
    ∙ get_or-take (t.i + 1) (take 10 rest) k 0 le in
    let last_reads : get_or text t.i 0 ≡ get_or (take 10 rest) t.i 0 = reads t.i (omega arith) in
    let last_is : last_digit_index (window bytes at) ≡ t.i =
    first_last (take 10 rest) t.i inside (λ k le. rw (← reads k (omega arith)) (t.low k le))
    (rw (← last_reads) t.high) in
    let number : base128_value (take (t.i + 1) (take 10 rest)) ≡ v = rw same t.number in
    let first : ltb t.i (length (take 10 rest)) ≡ true = lt-ltb _ _ inside in
    let second : ltb v (2 ^ 64) ≡ true = lt-ltb _ _ lt in
    let third : (eqb t.i 0 || not (eqb (get_or (take 10 rest) t.i 0) 128)) ≡ true =
    rw (← last_reads) (canonical t.i (get_or text t.i 0) v t.shortest t.zero_alone) in
    let place : at + t.i + 1 ≡ end = omega (arith, size, h.in_order) in
    rw (last_is, number, first, second, third, place) refl

-- what was written is read back, whatever precedes and follows it
pub vbyte_again : (before after : List ℕ) (v : ℕ) → v < 2 ^ 64 → vbyte_at (before ++ vbyte v ++ after) (length before)
    ≡ Ok (v, length before + length (vbyte v))
vbyte_again before after v lt =
    let s = HasSlice-after before (vbyte v) after in
    vbyte_only (before ++ vbyte v ++ after) (length before) v (length before + length (vbyte v)) lt (record {
      in_order = omega arith;
      within = s.within;
      spelled = subst (λ (t : List ℕ). VByte t v) (sym s.here) (vbyte_encodes v lt);
    })

-- no encoding is a prefix of another
pub begins_no_other : (a b x y : List ℕ) (m n : ℕ) → VByte a m → VByte b n → a ++ x ≡ b ++ y → (a ≡ b) × (m ≡ n)
begins_no_other [] b x y m n h k e = absurd h
begins_no_other (p ∷ cs) [] x y m n h k e = absurd k
begins_no_other (p ∷ []) (q ∷ []) x y m n h k e =
    let same : p ≡ q = cc in
    (ap (λ (d : ℕ). d ∷ []) same, omega (arith, same, h.1, k.1))
begins_no_other (p ∷ []) (q ∷ d ∷ bs) x y m n h k e = let same : p ≡ q = cc in absurd (omega (arith, same, h.1, k.0))
begins_no_other (p ∷ c ∷ cs) (q ∷ []) x y m n h k e = let same : p ≡ q = cc in absurd (omega (arith, same, h.0, k.1))
begins_no_other (p ∷ c ∷ cs) (q ∷ d ∷ bs) x y m n h k e =
    let same : p ≡ q = cc in
    let rest : (c ∷ cs) ++ x ≡ (d ∷ bs) ++ y = cc in
    let ih = begins_no_other (c ∷ cs) (d ∷ bs) x y h.1 k.1 h.4 k.4 rest in
    let first : p ∷ c ∷ cs ≡ q ∷ c ∷ cs = ap (λ (b : ℕ). b ∷ c ∷ cs) same in
    (first ∙ ap (λ (t : List ℕ). q ∷ t) ih.0, omega (arith, same, ih.1, h.3, k.3))
