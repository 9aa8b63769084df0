-- The CRC-32 of gzip by a table: eight shifts of a register give the table's entry for its low byte, xored with the
-- bytes above it.
use Rattle.std.proofs.Common.{◌≡◌, ℕ, zero, suc, ◌+◌, ◌*◌, ◌/◌, ◌%◌, ◌^◌, ◌<◌, Bool, true, ◌&&◌, List, [], ◌∷◌, length}
use Rattle.std.proofs.Common.{get_or, eqb, bit_xor, refl, sym, ap, ◌∙◌, arith, inl, inr}
use Rattle.std.specs.Fn.{iterate}
use Rattle.std.specs.Int.Bits.{xor_assoc, xor_zero_l, xor_zero_r}
use Rattle.std.proofs.Math.Nat.{pow-suc}
use Rattle.std.proofs.lemmas.Bool.{eqb-true, and_parts, cases_Bool}
use Rattle.std.proofs.lemmas.Nat.{xor_comm, xor_shr, xor_mod, xor_lt, xor_block}
use Rattle.hdt_terms.specs.declared.parts.TheConstants.{TABLE}
use Rattle.hdt_wire.specs.Crc.{shift_right}
use Rattle.hdt_terms.specs.Parts.{crc32_zlib_step}

-- the list is f i, f (i + 1) and so on
abbrev is_table_of : (ℕ → ℕ) → ℕ → List ℕ → Bool
is_table_of f i [] = true
is_table_of f i (x ∷ xs) = eqb x (f i) && is_table_of f (i + 1) xs

lists_at : (f : ℕ → ℕ) (i : ℕ) (xs : List ℕ) (k : ℕ) → is_table_of f i xs ≡ true → k < length xs
    → get_or xs k 0 ≡ f (i + k)
lists_at f i [] k h lt = absurd (omega arith)
lists_at f i (x ∷ xs) zero h lt =
    let here : i ≡ i + 0 = omega arith in
    eqb-true _ _ (and_parts _ _ h).0 ∙ ap f here
lists_at f i (x ∷ xs) (suc k) h lt =
    let there : i + 1 + k ≡ i + suc k = omega arith in
    lists_at f (i + 1) xs k (and_parts _ _ h).1 (omega arith) ∙ ap f there

-- bits above the low bit are only shifted
shift_above : (p low high : ℕ) → shift_right p (bit_xor low (high * 2)) ≡ bit_xor (shift_right p low) high
unfolding shift_right
shift_above p low high =
    let half-high : high * 2 / 2 ≡ high = omega arith in
    let no-bit : high * 2 % 2 ≡ 0 = omega arith in
    let half : bit_xor low (high * 2) / 2 ≡ bit_xor (low / 2) high = xor_shr low (high * 2) 1
    ∙ ap (bit_xor (low / 2)) half-high in
    let odd : bit_xor low (high * 2) % 2 ≡ low % 2 = xor_mod low (high * 2) 1 ∙ ap (bit_xor (low % 2)) no-bit
    ∙ xor_zero_r (low % 2) in
    elim (cases_Bool (eqb (low % 2) 1)) [
      | inl e ↦ rw (odd, e, half) (xor_assoc (low / 2) high p ∙ ap (bit_xor (low / 2)) (xor_comm high p)
          ∙ sym (xor_assoc (low / 2) p high))
      | inr e ↦ rw (odd, e, half) refl
    ]

shifts_above : (p n low high : ℕ) → iterate (shift_right p) n (bit_xor low (high * 2 ^ n))
    ≡ bit_xor (iterate (shift_right p) n low) high
shifts_above p zero low high = ap (bit_xor low) (omega arith)
shifts_above p (suc n) low high =
    let e : high * 2 ^ suc n ≡ (high * 2 ^ n) * 2 = rw pow-suc (omega arith) in
    ap (λ (x : ℕ). iterate (shift_right p) n (shift_right p (bit_xor low x))) e
    ∙ ap (iterate (shift_right p) n) (shift_above p low (high * 2 ^ n)) ∙ shifts_above p n (shift_right p low) high

-- the table has the shifts of each byte, by evaluation
table_holds : is_table_of (iterate (shift_right 0xEDB8_8320) 8) 0 TABLE ≡ true
unfolding shift_right
table_holds = refl

table_entry : (f : ℕ → ℕ) (table : List ℕ) (k : ℕ) → is_table_of f 0 table ≡ true → k < length table
    → get_or table k 0 ≡ f k
table_entry f table k holds lt = lists_at f 0 table k holds lt ∙ ap f (omega arith)

-- a byte is xored into the low byte of a register only
joined : (high low byte : ℕ) → low < 2 ^ 8 → byte < 2 ^ 8
    → bit_xor (high * 2 ^ 8 + low) byte ≡ bit_xor (bit_xor low byte) (high * 2 ^ 8)
joined high low byte small fits =
    let z : (n : ℕ) → 0 * 2 ^ 8 + n ≡ n = λ n. omega arith in
    let w : high * 2 ^ 8 + 0 ≡ high * 2 ^ 8 = omega arith in
    let left : bit_xor (high * 2 ^ 8 + low) (0 * 2 ^ 8 + byte) ≡ bit_xor high 0 * 2 ^ 8 + bit_xor low byte =
    xor_block 8 high 0 low byte small fits in
    let right : bit_xor (0 * 2 ^ 8 + bit_xor low byte) (high * 2 ^ 8 + 0)
    ≡ bit_xor 0 high * 2 ^ 8 + bit_xor (bit_xor low byte) 0 =
    xor_block 8 0 high (bit_xor low byte) 0 (xor_lt 8 low byte small fits) (omega arith) in
    let left' : bit_xor (high * 2 ^ 8 + low) byte ≡ high * 2 ^ 8 + bit_xor low byte =
    ap (bit_xor (high * 2 ^ 8 + low)) (sym (z byte)) ∙ left
    ∙ ap (λ (n : ℕ). n * 2 ^ 8 + bit_xor low byte) (xor_zero_r high) in
    let right' : bit_xor (bit_xor low byte) (high * 2 ^ 8) ≡ high * 2 ^ 8 + bit_xor low byte =
    ap (λ (n : ℕ). bit_xor n (high * 2 ^ 8)) (sym (z (bit_xor low byte)))
    ∙ ap (bit_xor (0 * 2 ^ 8 + bit_xor low byte)) (sym w) ∙ right
    ∙ ap (λ (n : ℕ). n * 2 ^ 8 + bit_xor (bit_xor low byte) 0) (xor_zero_l high)
    ∙ ap (λ (n : ℕ). high * 2 ^ 8 + n) (xor_zero_r (bit_xor low byte)) in
    left' ∙ sym right'

pub entry : (register byte : ℕ) → byte < 256 → bit_xor (register / 256) (get_or TABLE (bit_xor (register % 256) byte) 0)
    ≡ crc32_zlib_step register byte
unfolding crc32_zlib_step
entry register byte lt =
    let low = bit_xor (register % 256) byte in
    let is : get_or TABLE low 0 ≡ iterate (shift_right 0xEDB8_8320) 8 low =
    table_entry (iterate (shift_right 0xEDB8_8320) 8) TABLE low table_holds
    (xor_lt 8 (register % 256) byte (omega arith) lt) in
    let whole : register ≡ register / 256 * 2 ^ 8 + register % 256 = omega arith in
    let cut : bit_xor register byte ≡ bit_xor low (register / 256 * 2 ^ 8) = ap (λ (n : ℕ). bit_xor n byte) whole
    ∙ joined (register / 256) (register % 256) byte (omega arith) lt in
    ap (bit_xor (register / 256)) is ∙ xor_comm (register / 256) (iterate (shift_right 0xEDB8_8320) 8 low)
    ∙ sym (ap (iterate (shift_right 0xEDB8_8320) 8) cut ∙ shifts_above 0xEDB8_8320 8 low (register / 256))

-- the index into a table is a byte
pub low_fits : (register byte : ℕ) → byte < 256 → bit_xor (register % 256) byte < 256
low_fits register byte lt = xor_lt 8 (register % 256) byte (omega arith) lt
