-- The CRC-32C, eight bytes a step. Shifting is linear over xor, so the register after eight bytes is the xor of the
-- single bytes, each shifted once for each bit from it on.
use Rattle.std.proofs.Common.{◌≡◌, ℕ, zero, suc, ◌+◌, ◌*◌, ◌/◌, ◌%◌, ◌^◌, ◌<◌, true, false, List, [], ◌∷◌, length}
use Rattle.std.proofs.Common.{get_or, eqb, bit_xor, refl, sym, ap, ◌∙◌, arith, inl, inr}
use Rattle.std.specs.Prelude.{fold}
use Rattle.std.specs.Fn.{iterate}
use Rattle.std.specs.Int.Bits.{xor_assoc, xor_self, xor_zero_l, xor_zero_r}
use Rattle.std.proofs.lemmas.Bool.{eqb-true, eqb-false, cases_Bool}
use Rattle.std.proofs.lemmas.Nat.{xor_comm, xor_shr, xor_mod, xor_lt, xor_block}
use Rattle.hdt_wire.specs.declared.crc32c.TheConstants.{AFTER_8, AFTER_16, AFTER_24, AFTER_32, AFTER_40, AFTER_48}
use Rattle.hdt_wire.specs.declared.crc32c.TheConstants.{AFTER_56, AFTER_64}
use Rattle.hdt_wire.specs.Crc.{shift_right, crc32_step}
use Rattle.hdt_wire.specs.Checks.{IsBytes}
use Rattle.hdt_wire.proofs.CrcTables.{is_table_of, table_entry, shifts_above, after_8_holds}

-- ---- shifting is linear

swap : (a b c d : ℕ) → bit_xor (bit_xor a b) (bit_xor c d) ≡ bit_xor (bit_xor a c) (bit_xor b d)
swap a b c d =
    xor_assoc a b (bit_xor c d)
    ∙ ap (bit_xor a) (sym (xor_assoc b c d) ∙ ap (λ (n : ℕ). bit_xor n d) (xor_comm b c) ∙ xor_assoc c b d)
    ∙ sym (xor_assoc a c (bit_xor b d))

-- xoring twice cancels
twice : (a b p : ℕ) → bit_xor (bit_xor a p) (bit_xor b p) ≡ bit_xor a b
twice a b p = swap a p b p ∙ ap (bit_xor (bit_xor a b)) (xor_self p) ∙ xor_zero_r (bit_xor a b)

once : (a b p : ℕ) → bit_xor (bit_xor a p) b ≡ bit_xor (bit_xor a b) p
once a b p = xor_assoc a p b ∙ ap (bit_xor a) (xor_comm p b) ∙ sym (xor_assoc a b p)

even : (n : ℕ) → eqb (n % 2) 1 ≡ false → n % 2 ≡ 0
even n e = let ne = eqb-false _ _ e in grind (arith, ne)

shift-xor : (p a b : ℕ) → shift_right p (bit_xor a b) ≡ bit_xor (shift_right p a) (shift_right p b)
unfolding shift_right
shift-xor p a b =
    let half : bit_xor a b / 2 ≡ bit_xor (a / 2) (b / 2) = xor_shr a b 1 in
    let odd : bit_xor a b % 2 ≡ bit_xor (a % 2) (b % 2) = xor_mod a b 1 in
    elim (cases_Bool (eqb (a % 2) 1)) [
      | inl ea ↦ elim (cases_Bool (eqb (b % 2) 1)) [
        | inl eb ↦ rw (odd, half, eqb-true _ _ ea, eqb-true _ _ eb) (sym (twice (a / 2) (b / 2) p))
        | inr eb ↦ rw (odd, half, eqb-true _ _ ea, even b eb) (sym (once (a / 2) (b / 2) p))
      ]
      | inr ea ↦ elim (cases_Bool (eqb (b % 2) 1)) [
        | inl eb ↦ rw (odd, half, even a ea, eqb-true _ _ eb) (xor_assoc (a / 2) (b / 2) p)
        | inr eb ↦ rw (odd, half, even a ea, even b eb) refl
      ]
    ]

shifts-xor : (p n a b : ℕ)
    → iterate (shift_right p) n (bit_xor a b) ≡ bit_xor (iterate (shift_right p) n a) (iterate (shift_right p) n b)
shifts-xor p zero a b = refl
shifts-xor p (suc n) a b = ap (iterate (shift_right p) n) (shift-xor p a b)
    ∙ shifts-xor p n (shift_right p a) (shift_right p b)

shifts-add : (p m n x : ℕ) → iterate (shift_right p) (m + n) x ≡ iterate (shift_right p) n (iterate (shift_right p) m x)
shifts-add p zero n x = let e : 0 + n ≡ n = omega arith in ap (λ (k : ℕ). iterate (shift_right p) k x) e
shifts-add p (suc m) n x =
    let e : suc m + n ≡ suc (m + n) = omega arith in
    ap (λ (k : ℕ). iterate (shift_right p) k x) e ∙ shifts-add p m n (shift_right p x)

-- eight shifts of a number whose low byte is 0
shift_away : (p x : ℕ) → iterate (shift_right p) 8 (x * 2 ^ 8) ≡ x
unfolding shift_right
shift_away p x = ap (iterate (shift_right p) 8) (sym (xor_zero_l (x * 2 ^ 8))) ∙ shifts_above p 8 0 x ∙ xor_zero_l x

-- ---- bytes as one word

-- the little-endian number of the bytes, by xor
abbrev word : List ℕ → ℕ
word [] = 0
word (b ∷ bs) = bit_xor b (word bs * 2 ^ 8)

eight_more : (b : ℕ) (bs : List ℕ) → 8 * length (b ∷ bs) ≡ 8 + 8 * length bs
eight_more b bs = omega arith

-- the register after all bytes, taken as one word
taken : (r : ℕ) (bs : List ℕ)
    → fold crc32_step r bs ≡ iterate (shift_right 0x82F63B78) (8 * length bs) (bit_xor r (word bs))
unfolding crc32_step
taken r [] = sym (xor_zero_r r)
taken r (b ∷ bs) =
    taken (crc32_step r b) bs
    ∙ ap (iterate (shift_right 0x82F63B78) (8 * length bs)) (sym (shifts_above 0x82F63B78 8 (bit_xor r b) (word bs))
    ∙ ap (iterate (shift_right 0x82F63B78) 8) (xor_assoc r b (word bs * 2 ^ 8)))
    ∙ sym (ap (λ (k : ℕ). iterate (shift_right 0x82F63B78) k (bit_xor r (word (b ∷ bs)))) (eight_more b bs)
    ∙ shifts-add 0x82F63B78 8 (8 * length bs) (bit_xor r (word (b ∷ bs))))

-- each byte of a word, shifted by itself
abbrev spread : ℕ → List ℕ → ℕ
spread p [] = 0
spread p (v ∷ vs) = bit_xor (iterate (shift_right p) (8 * length (v ∷ vs)) v) (spread p vs)

spread_is : (p : ℕ) (vs : List ℕ) → iterate (shift_right p) (8 * length vs) (word vs) ≡ spread p vs
spread_is p [] = refl
spread_is p (v ∷ vs) =
    let high : iterate (shift_right p) (8 * length (v ∷ vs)) (word vs * 2 ^ 8) ≡ spread p vs =
    ap (λ (k : ℕ). iterate (shift_right p) k (word vs * 2 ^ 8)) (eight_more v vs)
    ∙ shifts-add p 8 (8 * length vs) (word vs * 2 ^ 8)
    ∙ ap (iterate (shift_right p) (8 * length vs)) (shift_away p (word vs)) ∙ spread_is p vs in
    shifts-xor p (8 * length (v ∷ vs)) v (word vs * 2 ^ 8)
    ∙ ap (bit_xor (iterate (shift_right p) (8 * length (v ∷ vs)) v)) high

-- ---- a register xored into a word

-- a number is its low byte and the rest
low_and_high : (r : ℕ) → r ≡ bit_xor (r % 256) (r / 256 * 2 ^ 8)
low_and_high r =
    let low : 0 * 2 ^ 8 + r % 256 ≡ r % 256 = omega arith in
    let high : r / 256 * 2 ^ 8 + 0 ≡ r / 256 * 2 ^ 8 = omega arith in
    let block : bit_xor (0 * 2 ^ 8 + r % 256) (r / 256 * 2 ^ 8 + 0)
    ≡ bit_xor 0 (r / 256) * 2 ^ 8 + bit_xor (r % 256) 0 =
    xor_block 8 0 (r / 256) (r % 256) 0 (omega arith) (omega arith) in
    let sum : r / 256 * 2 ^ 8 + r % 256 ≡ r = omega arith in
    sym sum ∙ ap (λ (n : ℕ). r / 256 * 2 ^ 8 + n) (sym (xor_zero_r (r % 256)))
    ∙ ap (λ (n : ℕ). n * 2 ^ 8 + bit_xor (r % 256) 0) (sym (xor_zero_l (r / 256))) ∙ sym block
    ∙ ap (λ (n : ℕ). bit_xor n (r / 256 * 2 ^ 8 + 0)) low ∙ ap (bit_xor (r % 256)) high

above : (x y : ℕ) → bit_xor (x * 2 ^ 8) (y * 2 ^ 8) ≡ bit_xor x y * 2 ^ 8
above x y =
    let plain : (n : ℕ) → n * 2 ^ 8 + 0 ≡ n * 2 ^ 8 = λ n. omega arith in
    ap (λ (n : ℕ). bit_xor n (y * 2 ^ 8)) (sym (plain x)) ∙ ap (bit_xor (x * 2 ^ 8 + 0)) (sym (plain y))
    ∙ xor_block 8 x y 0 0 (omega arith) (omega arith) ∙ ap (λ (n : ℕ). bit_xor x y * 2 ^ 8 + n) (xor_self 0)
    ∙ plain (bit_xor x y)

mix : (r b w : ℕ) → bit_xor r (bit_xor b (w * 2 ^ 8)) ≡ bit_xor (bit_xor (r % 256) b) (bit_xor (r / 256) w * 2 ^ 8)
mix r b w =
    ap (λ (n : ℕ). bit_xor n (bit_xor b (w * 2 ^ 8))) (low_and_high r) ∙ swap (r % 256) (r / 256 * 2 ^ 8) b (w * 2 ^ 8)
    ∙ ap (bit_xor (bit_xor (r % 256) b)) (above (r / 256) w)

-- the four bytes of a register are xored into the first four bytes
meet : (r a b c d w : ℕ) → r < 2 ^ 32
    → bit_xor r (bit_xor a (bit_xor b (bit_xor c (bit_xor d (w * 2 ^ 8) * 2 ^ 8) * 2 ^ 8) * 2 ^ 8))
    ≡ bit_xor (bit_xor (r % 256) a)
    (bit_xor (bit_xor (r / 256 % 256) b)
    (bit_xor (bit_xor (r / 65536 % 256) c) (bit_xor (bit_xor (r / 16777216) d) (w * 2 ^ 8) * 2 ^ 8) * 2 ^ 8) * 2
    ^ 8)
meet r a b c d w lt =
    let second : r / 256 / 256 ≡ r / 65536 = omega arith in
    let third : r / 65536 / 256 ≡ r / 16777216 = omega arith in
    let top : r / 16777216 % 256 ≡ r / 16777216 = omega (arith, lt) in
    let none : r / 16777216 / 256 ≡ 0 = omega (arith, lt) in
    let m3 : bit_xor (r / 16777216) (bit_xor d (w * 2 ^ 8)) ≡ bit_xor (bit_xor (r / 16777216) d) (w * 2 ^ 8) =
    mix (r / 16777216) d w ∙ rw (top, none, xor_zero_l w) refl in
    let m2 : bit_xor (r / 65536) (bit_xor c (bit_xor d (w * 2 ^ 8) * 2 ^ 8))
    ≡ bit_xor (bit_xor (r / 65536 % 256) c) (bit_xor (bit_xor (r / 16777216) d) (w * 2 ^ 8) * 2 ^ 8) =
    mix (r / 65536) c (bit_xor d (w * 2 ^ 8)) ∙ rw (third, m3) refl in
    let m1 : bit_xor (r / 256) (bit_xor b (bit_xor c (bit_xor d (w * 2 ^ 8) * 2 ^ 8) * 2 ^ 8))
    ≡ bit_xor (bit_xor (r / 256 % 256) b)
    (bit_xor (bit_xor (r / 65536 % 256) c) (bit_xor (bit_xor (r / 16777216) d) (w * 2 ^ 8) * 2 ^ 8) * 2 ^ 8) =
    mix (r / 256) b (bit_xor c (bit_xor d (w * 2 ^ 8) * 2 ^ 8)) ∙ rw (second, m2) refl in
    mix r a (bit_xor b (bit_xor c (bit_xor d (w * 2 ^ 8) * 2 ^ 8) * 2 ^ 8)) ∙ rw m1 refl

-- ---- the tables

after_16_holds : is_table_of (iterate (shift_right 0x82F63B78) 16) 0 AFTER_16 ≡ true
unfolding shift_right
after_16_holds = refl

after_24_holds : is_table_of (iterate (shift_right 0x82F63B78) 24) 0 AFTER_24 ≡ true
unfolding shift_right
after_24_holds = refl

after_32_holds : is_table_of (iterate (shift_right 0x82F63B78) 32) 0 AFTER_32 ≡ true
unfolding shift_right
after_32_holds = refl

after_40_holds : is_table_of (iterate (shift_right 0x82F63B78) 40) 0 AFTER_40 ≡ true
unfolding shift_right
after_40_holds = refl

after_48_holds : is_table_of (iterate (shift_right 0x82F63B78) 48) 0 AFTER_48 ≡ true
unfolding shift_right
after_48_holds = refl

after_56_holds : is_table_of (iterate (shift_right 0x82F63B78) 56) 0 AFTER_56 ≡ true
unfolding shift_right
after_56_holds = refl

after_64_holds : is_table_of (iterate (shift_right 0x82F63B78) 64) 0 AFTER_64 ≡ true
unfolding shift_right
after_64_holds = refl

after : (n : ℕ) (table : List ℕ) (v : ℕ) → is_table_of (iterate (shift_right 0x82F63B78) n) 0 table ≡ true
    → v < length table → iterate (shift_right 0x82F63B78) n v ≡ get_or table v 0
after n table v holds lt = sym (table_entry (iterate (shift_right 0x82F63B78) n) table v holds lt)

-- ---- eight bytes

-- the xor of eight entries, nested to the right or to the left
gathered : (a b c d e f g h : ℕ)
    → bit_xor a (bit_xor b (bit_xor c (bit_xor d (bit_xor e (bit_xor f (bit_xor g (bit_xor h 0)))))))
    ≡ bit_xor (bit_xor (bit_xor (bit_xor (bit_xor (bit_xor (bit_xor a b) c) d) e) f) g) h
gathered a b c d e f g h =
    ap (λ (n : ℕ). bit_xor a (bit_xor b (bit_xor c (bit_xor d (bit_xor e (bit_xor f (bit_xor g n))))))) (xor_zero_r h)
    ∙ sym (simp xor_assoc)

pub by_eight : (r : ℕ) (bytes : List ℕ) → r < 2 ^ 32 → IsBytes bytes → length bytes ≡ 8
    → bit_xor (bit_xor (bit_xor
    (bit_xor (bit_xor (bit_xor
    (bit_xor (get_or AFTER_64 (bit_xor (r % 256) (get_or bytes 0 0)) 0)
    (get_or AFTER_56 (bit_xor (r / 256 % 256) (get_or bytes 1 0)) 0))
    (get_or AFTER_48 (bit_xor (r / 65536 % 256) (get_or bytes 2 0)) 0))
    (get_or AFTER_40 (bit_xor (r / 16777216) (get_or bytes 3 0)) 0)) (get_or AFTER_32 (get_or bytes 4 0) 0))
    (get_or AFTER_24 (get_or bytes 5 0) 0)) (get_or AFTER_16 (get_or bytes 6 0) 0))
    (get_or AFTER_8 (get_or bytes 7 0) 0)
    ≡ fold crc32_step r bytes
by_eight r (a ∷ b ∷ c ∷ d ∷ e ∷ f ∷ g ∷ h ∷ []) lt fits size =
    let v0 : ℕ = bit_xor (r % 256) a in
    let v1 : ℕ = bit_xor (r / 256 % 256) b in
    let v2 : ℕ = bit_xor (r / 65536 % 256) c in
    let v3 : ℕ = bit_xor (r / 16777216) d in
    let met : bit_xor r (word (a ∷ b ∷ c ∷ d ∷ e ∷ f ∷ g ∷ h ∷ [])) ≡ word (v0 ∷ v1 ∷ v2 ∷ v3 ∷ e ∷ f ∷ g ∷ h ∷ []) =
    meet r a b c d (word (e ∷ f ∷ g ∷ h ∷ [])) lt in
    let spreads = spread_is 0x82F63B78 (v0 ∷ v1 ∷ v2 ∷ v3 ∷ e ∷ f ∷ g ∷ h ∷ []) in
    let e0 = after 64 AFTER_64 v0 after_64_holds (xor_lt 8 (r % 256) a (omega arith) (fits 0)) in
    let e1 = after 56 AFTER_56 v1 after_56_holds (xor_lt 8 (r / 256 % 256) b (omega arith) (fits 1)) in
    let e2 = after 48 AFTER_48 v2 after_48_holds (xor_lt 8 (r / 65536 % 256) c (omega arith) (fits 2)) in
    let e3 = after 40 AFTER_40 v3 after_40_holds (xor_lt 8 (r / 16777216) d (omega (arith, lt)) (fits 3)) in
    let e4 = after 32 AFTER_32 e after_32_holds (fits 4) in
    let e5 = after 24 AFTER_24 f after_24_holds (fits 5) in
    let e6 = after 16 AFTER_16 g after_16_holds (fits 6) in
    let e7 = after 8 AFTER_8 h after_8_holds (fits 7) in
    sym (taken r (a ∷ b ∷ c ∷ d ∷ e ∷ f ∷ g ∷ h ∷ []) ∙ ap (iterate (shift_right 0x82F63B78) 64) met ∙ spreads
    ∙ rw (
      e0,
      e1,
      e2,
      e3,
      e4,
      e5,
      e6,
      e7,
    ) (gathered (get_or AFTER_64 v0 0) (get_or AFTER_56 v1 0) (get_or AFTER_48 v2 0) (get_or AFTER_40 v3 0)
    (get_or AFTER_32 e 0) (get_or AFTER_24 f 0) (get_or AFTER_16 g 0) (get_or AFTER_8 h 0)))
by_eight r bytes lt fits size = absurd (omega (arith, size))
