-- Laws of the little-endian number of a list of bytes.
use Rattle.std.proofs.Common.{Bool, ◌≡◌, ℕ, ◌+◌, ◌-◌, ◌*◌, ◌/◌, ◌%◌, ◌^◌, ◌<◌, ◌≤◌, zero, suc, List, [], ◌∷◌, length}
use Rattle.std.proofs.Common.{get_or, take, drop, ap, sym, ◌∙◌, subst, arith}
use Rattle.std.proofs.lemmas.Nat.{shr-shr, mod-pow-add, field_of, shr_high, mod_low, pow_pos, pow-add, mod_below}
use Rattle.std.proofs.Math.Nat.{div-one, mod-one, zero-div, zero-mod}
use Rattle.std.proofs.Math.Pow.{mod-mod-pow}
use Rattle.std.proofs.lemmas.Grind.{common_steps}
use Rattle.std.proofs.lemmas.List.FromFn.{length-map-range_with_len, get_or-map-range_with_len}
use Rattle.hdt_wire.specs.Checks.{IsBytes}
use Rattle.hdt_seq.specs.PackedBits.{little, entry, entries, bit, bits}

rest_bytes : (b : ℕ) (bs : List ℕ) → IsBytes (b ∷ bs) → IsBytes bs
rest_bytes b bs small = λ i. small (suc i)

head_first : (b l : ℕ) → b < 256 → (b + 256 * l) / 2 ^ 8 ≡ l
head_first b l h = ap (λ n. n / 2 ^ 8) (let e : b + 256 * l ≡ l * 2 ^ 8 + b = omega arith in e) ∙ shr_high l 8 b h

head_last : (b l : ℕ) → b < 256 → (b + 256 * l) % 2 ^ 8 ≡ b
head_last b l h = ap (λ n. n % 2 ^ 8) (let e : b + 256 * l ≡ l * 2 ^ 8 + b = omega arith in e) ∙ mod_low l 8 b h

-- the number without its first bytes, or without its last ones
pub little-drop : (bs : List ℕ) (k : ℕ) → IsBytes bs → little (drop k bs) ≡ little bs / 2 ^ (8 * k)
little-drop bs zero small = sym (div-one (little bs))
little-drop [] (suc k) small = sym (zero-div (2 ^ (8 * suc k)))
little-drop (b ∷ bs) (suc k) small =
    little-drop bs k (rest_bytes b bs small)
    ∙ ap (λ n. n / 2 ^ (8 * k)) (sym (head_first b (little bs) (small 0)))
    ∙ shr-shr (b + 256 * little bs) 8 (8 * k)
    ∙ ap (λ n. (b + 256 * little bs) / 2 ^ n) (let e : 8 + 8 * k ≡ 8 * suc k = omega arith in e)

low_bytes : (b l k : ℕ) → b < 256 → (b + 256 * l) % 2 ^ (8 * suc k) ≡ b + 256 * (l % 2 ^ (8 * k))
low_bytes b l k h =
    ap (λ n. (b + 256 * l) % 2 ^ n) (let e : 8 * suc k ≡ 8 * k + 8 = omega arith in e)
    ∙ mod-pow-add (b + 256 * l) (8 * k) 8
    ∙ (rw (head_first b l h, head_last b l h) (omega arith))

pub little-take : (bs : List ℕ) (k : ℕ) → IsBytes bs → little (take k bs) ≡ little bs % 2 ^ (8 * k)
little-take bs zero small = sym (mod-one (little bs))
little-take [] (suc k) small = sym (zero-mod (2 ^ (8 * suc k)))
little-take (b ∷ bs) (suc k) small =
    ap (λ n. b + 256 * n) (little-take bs k (rest_bytes b bs small))
    ∙ sym (low_bytes b (little bs) k (small 0))

-- the number of k bytes is below 2 ^ (8 * k)
pub little_small : (bs : List ℕ) (k : ℕ) → IsBytes bs → length bs ≤ k → little bs < 2 ^ (8 * k)
little_small [] k small fits = pow_pos (8 * k)
little_small (b ∷ bs) zero small fits = absurd (omega (arith, fits))
little_small (b ∷ bs) (suc k) small fits =
    subst (λ n. b + 256 * little bs < 2 ^ n) (let e : 8 + 8 * k ≡ 8 * suc k = omega arith in e)
    (rw (pow-add 2 8 (8 * k)) (omega (arith, small 0, little_small bs k (rest_bytes b bs small) (omega arith))))

pub mod_less : (n j k : ℕ) → k ≤ j → n % 2 ^ j % 2 ^ k ≡ n % 2 ^ k
mod_less n j k h = ap (λ m. n % 2 ^ m % 2 ^ k) (let e : j ≡ (j - k) + k = omega arith in e) ∙ mod-mod-pow n (j - k) k

pub rest_whole : (first : ℕ) (bytes : List ℕ) → take (length bytes - first) (drop first bytes) ≡ drop first bytes
rest_whole first bytes = grind (arith, common_steps)

pub short_whole : (bytes : List ℕ) → length bytes ≤ 9 → bytes ≡ take 9 bytes
short_whole bytes h = grind (arith, common_steps)

-- ---- entries and bits of packed bytes

pub length-entries : (bytes : List ℕ) (width n : ℕ) → length (entries bytes width n) ≡ n
unfolding entries
length-entries bytes width n = length-map-range_with_len (entry bytes width) 0 n

pub get_or-entries : (bytes : List ℕ) (width n i : ℕ) → i < n → get_or (entries bytes width n) i 0 ≡ entry bytes width i
unfolding entries
get_or-entries bytes width n i lt = get_or-map-range_with_len (entry bytes width) 0 n i i 0 lt (omega arith)

pub length-bits : (bytes : List ℕ) (n : ℕ) → length (bits bytes n) ≡ n
unfolding bits
length-bits bytes n = length-map-range_with_len (bit bytes) 0 n

pub get_or-bits : (bytes : List ℕ) (n i : ℕ) (d : Bool) → i < n → get_or (bits bytes n) i d ≡ bit bytes i
unfolding bits
get_or-bits bytes n i d lt = get_or-map-range_with_len (bit bytes) 0 n i i d lt (omega arith)

-- byte k of the number
pub little_byte : (bs : List ℕ) (k : ℕ) → IsBytes bs → little bs / 2 ^ (8 * k) % 2 ^ 8 ≡ get_or bs k 0
little_byte [] k small = ap (λ n. n % 2 ^ 8) (zero-div (2 ^ (8 * k)))
little_byte (b ∷ bs) zero small = ap (λ n. n % 2 ^ 8) (div-one (b + 256 * little bs))
    ∙ head_last b (little bs) (small 0)
little_byte (b ∷ bs) (suc k) small =
    let more : 8 * suc k ≡ 8 + 8 * k = omega arith in
    ap (λ n. (b + 256 * little bs) / 2 ^ n % 2 ^ 8) more
    ∙ ap (λ n. n % 2 ^ 8) (sym (shr-shr (b + 256 * little bs) 8 (8 * k)))
    ∙ ap (λ n. n / 2 ^ (8 * k) % 2 ^ 8) (head_first b (little bs) (small 0))
    ∙ little_byte bs k (rest_bytes b bs small)

-- bit i of the number is a bit of byte i / 8
pub bit_of_byte : (bs : List ℕ) (i : ℕ) → IsBytes bs → get_or bs (i / 8) 0 / 2 ^ (i % 8) % 2 ≡ little bs / 2 ^ i % 2
bit_of_byte bs i small =
    let s : ℕ = i % 8 in
    let k : ℕ = i / 8 in
    let low : s < 8 = mod_below i 8 (omega arith) in
    let whole : 8 * k + s ≡ i = omega arith in
    let split : 8 ≡ (8 - s) + s = omega arith in
    let m : ℕ = little bs / 2 ^ (8 * k) in
    ap (λ n. n / 2 ^ s % 2) (sym (little_byte bs k small) ∙ ap (λ n. m % 2 ^ n) split)
    ∙ ap (λ n. n % 2 ^ 1) (field_of m (8 - s) s)
    ∙ mod_less (m / 2 ^ s) (8 - s) 1 (omega arith)
    ∙ ap (λ n. n % 2) (shr-shr (little bs) (8 * k) s)
    ∙ ap (λ n. little bs / 2 ^ n % 2) whole
