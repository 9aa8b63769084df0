-- Bits of bytes that were loaded as machine words.
use Rattle.std.proofs.Common.{◌≡◌, ℕ, zero, suc, ◌+◌, ◌-◌, ◌*◌, ◌/◌, ◌%◌, ◌^◌, ◌<◌, ◌≤◌, List, [], ◌∷◌, length, get_or}
use Rattle.std.proofs.Common.{take, drop, bit_and, refl, ap, ◌∙◌, arith}
use Rattle.std.proofs.lemmas.Nat.{shr-shr, field_of, one_shl, and_mask}
use Rattle.std.proofs.lemmas.List.{take_all}
use Rattle.byteorder.specs.Endian.{little_number}
use Rattle.byteorder.specs.Numbers.{little_from-cons}
use Rattle.hdt_wire.specs.Checks.{IsBytes}
use Rattle.hdt_seq.specs.PackedBits.{little}
use Rattle.hdt_seq.specs.Laws.LittleEndian.{little-drop, little-take, little_byte, little_small, mod_less}

front : (n : ℕ) (bs : List ℕ) → n ≤ length bs → little_number n bs ≡ little (take n bs)
front zero bs le = refl
front (suc n) [] le = absurd (omega (arith, le))
front (suc n) (b ∷ bs) le = omega (arith, little_from-cons 0 n b bs, front n bs (omega (arith, le)))

-- one load of all bytes
pub few : (bs : List ℕ) → little_number (length bs) bs ≡ little bs
few bs = front (length bs) bs (omega arith) ∙ ap little (take_all (length bs) bs (omega arith))

-- one load of eight bytes, and the ninth byte
pub nine : (bs : List ℕ) → IsBytes bs → length bs ≡ 9 → little_number 8 bs + get_or bs 8 0 * 2 ^ 64 ≡ little bs
nine bs small size =
    let low : little_number 8 bs ≡ little bs % 2 ^ 64 = front 8 bs (omega (arith, size)) ∙ little-take bs 8 small in
    let high : little bs / 2 ^ 64 % 2 ^ 8 ≡ get_or bs 8 0 = little_byte bs 8 small in
    let all : little bs < 2 ^ 72 = little_small bs 9 small (omega (arith, size)) in
    omega (arith, low, high, all)

-- w bits of a number from bit s on, by a shift and a mask
pub masked : (n s w : ℕ) → w ≤ 64 → bit_and (n / 2 ^ s) (1 * 2 ^ w % 2 ^ 128 - 1) ≡ n / 2 ^ s % 2 ^ w
masked n s w h = ap (λ m. bit_and (n / 2 ^ s) (m - 1)) (one_shl w 128 (omega (arith, h))) ∙ and_mask (n / 2 ^ s) w

-- bits below bit j
low_bits : (n j s w : ℕ) → s + w ≤ j → n % 2 ^ j / 2 ^ s % 2 ^ w ≡ n / 2 ^ s % 2 ^ w
low_bits n j s w h =
    let split : j ≡ (j - s) + s = omega (arith, h) in
    ap (λ m. n % 2 ^ m / 2 ^ s % 2 ^ w) split ∙ ap (λ m. m % 2 ^ w) (field_of n (j - s) s)
    ∙ mod_less (n / 2 ^ s) (j - s) w (omega (arith, h))

-- bits that are all in the first eight bytes
pub of_eight : (bs : List ℕ) (s w : ℕ) → IsBytes bs → 8 ≤ length bs → s + w ≤ 64
    → little_number 8 bs / 2 ^ s % 2 ^ w ≡ little bs / 2 ^ s % 2 ^ w
of_eight bs s w small size h =
    let low : little_number 8 bs ≡ little bs % 2 ^ 64 = front 8 bs size ∙ little-take bs 8 small in
    ap (λ n. n / 2 ^ s % 2 ^ w) low ∙ low_bits (little bs) 64 s w h

-- up to 64 bits from a bit of the first byte on are in the first nine bytes
pub of_nine : (bs near : List ℕ) (s w : ℕ) → IsBytes bs → near ≡ take 9 bs → s < 8 → w ≤ 64
    → little near / 2 ^ s % 2 ^ w ≡ little bs / 2 ^ s % 2 ^ w
of_nine bs near s w small is first narrow =
    ap (λ b. little b / 2 ^ s % 2 ^ w) is ∙ ap (λ n. n / 2 ^ s % 2 ^ w) (little-take bs 9 small)
    ∙ low_bits (little bs) 72 s w (omega (arith, first, narrow))

-- bits from bit `at` on are those of the bytes from byte at / 8 on
pub of_rest : (bs : List ℕ) (at w : ℕ) → IsBytes bs → little (drop (at / 8) bs) / 2 ^ (at % 8) % 2 ^ w
    ≡ little bs / 2 ^ at % 2 ^ w
of_rest bs at w small =
    let whole : 8 * (at / 8) + at % 8 ≡ at = omega arith in
    ap (λ n. n / 2 ^ (at % 8) % 2 ^ w) (little-drop bs (at / 8) small)
    ∙ ap (λ n. n % 2 ^ w) (shr-shr (little bs) (8 * (at / 8)) (at % 8)) ∙ ap (λ n. little bs / 2 ^ n % 2 ^ w) whole
