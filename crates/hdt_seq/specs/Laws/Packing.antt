-- Laws of packing: adding one entry, and reading back what was packed.
use Rattle.std.proofs.Common.{◌≡◌, ℕ, zero, suc, ◌+◌, ◌-◌, ◌*◌, ◌/◌, ◌%◌, ◌^◌, ◌<◌, ◌≤◌, Bool, true, false, eqb, List}
use Rattle.std.proofs.Common.{[], ◌∷◌, ◌++◌, length, get_or, take, map, refl, ap, sym, subst, ◌∙◌, arith, inl, inr}
use Rattle.std.proofs.Common.{append_assoc, length-append}
use Rattle.std.specs.Int.{byte_at, bytes_low_first}
use Rattle.std.proofs.Math.Nat.{pow-suc, pow-le-pow_right, div-one, mod-one, mod-eq_of_lt, add-mul-mod_self_left}
use Rattle.std.proofs.Math.Nat.{mul-le-mul_left, add-mul-div_right, mul-add, mul_assoc, mul_comm}
use Rattle.std.proofs.Math.Seq.{take-append_seam}
use Rattle.std.proofs.lemmas.Bool.{cases_lt}
use Rattle.std.proofs.lemmas.Nat.{pow_pos, pow-add, shr-shr, mod-pow-add, shr_high, shr_below}
use Rattle.std.proofs.lemmas.List.{get_or-map, length-map, length-take, take_more, take_all, get_or-take, get_or_past}
use Rattle.std.proofs.lemmas.List.FromFn.{fill_by_all}
use Rattle.byteorder.specs.Endian.{little_bytes}
use Rattle.byteorder.specs.Numbers.{length-bytes_low_first}
use Rattle.hdt_wire.specs.Checks.{IsBytes}
use Rattle.hdt_wire.specs.Control.{IsPrefixOf}
use Rattle.hdt_seq.specs.PackedBits.{EachFits, little, bytes_for, entry, entries, bit, bits, packed_number, packed}
use Rattle.hdt_seq.specs.PackedBits.{bit_number, packed_bits}

-- ---- the bytes of a number

-- the lowest n bytes of x, by recursion
low : ℕ → ℕ → List ℕ
low zero x = []
low (suc n) x = x % 256 ∷ low n (x / 256)

byte_at-pow : (k x : ℕ) → byte_at k x ≡ x / 256 ^ k % 256
byte_at-pow zero x = ap (λ (y : ℕ). y % 256) (sym (div-one x))
byte_at-pow (suc k) x = refl

pow256 : (n : ℕ) → 256 ^ n ≡ 2 ^ (8 * n)
pow256 zero = refl
pow256 (suc n) =
    let e : 8 * suc n ≡ 8 * n + 8 = omega arith in
    rw (pow-suc 256 n, pow256 n, e, pow-add 2 (8 * n) 8) refl

shift_byte : (k x : ℕ) → x / 256 ^ suc k ≡ x / 256 ^ k / 256
shift_byte k x =
    let e : 8 * suc k ≡ 8 * k + 8 = omega arith in
    ap (λ (p : ℕ). x / p) (pow256 (suc k) ∙ ap (λ (n : ℕ). 2 ^ n) e) ∙ sym (shr-shr x (8 * k) 8)
    ∙ ap (λ (p : ℕ). x / p / 256) (sym (pow256 k))

low_is : (n k x : ℕ) → bytes_low_first k n x ≡ low n (x / 256 ^ k)
unfolding low
low_is zero k x = refl
low_is (suc n) k x = rw (byte_at-pow k x, low_is n (suc k) x, shift_byte k x) refl

bytes_are : (n x : ℕ) → little_bytes n x ≡ low n x
bytes_are n x = low_is n 0 x ∙ ap (low n) (div-one x)

low_more : (k n x : ℕ) → low (k + n) x ≡ low k x ++ low n (x / 2 ^ (8 * k))
unfolding low
low_more zero n x =
    let z : 0 + n ≡ n = omega arith in
    ap (λ (m : ℕ). low m x) z ∙ ap (low n) (sym (div-one x))
low_more (suc k) n x =
    let next : suc k + n ≡ suc (k + n) = omega arith in
    let wide : 8 + 8 * k ≡ 8 * suc k = omega arith in
    ap (λ (m : ℕ). low m x) next
    ∙ ap (λ (t : List ℕ). x % 256 ∷ t) (low_more k n (x / 256)
    ∙ ap (λ (m : ℕ). low k (x / 256) ++ low n m) (shr-shr x 8 (8 * k) ∙ ap (λ (m : ℕ). x / 2 ^ m) wide))

low_above : (k x m : ℕ) → low k (x + m * 2 ^ (8 * k)) ≡ low k x
unfolding low
low_above zero x m = refl
low_above (suc k) x m =
    let wide : 2 ^ (8 * suc k) ≡ 2 ^ (8 * k) * 256 =
    (let e : 8 * suc k ≡ 8 * k + 8 = omega arith in ap (λ (n : ℕ). 2 ^ n) e ∙ pow-add 2 (8 * k) 8) in
    let y : ℕ = m * 2 ^ (8 * k) in
    let split : m * 2 ^ (8 * suc k) ≡ y * 256 = rw wide (omega arith) in
    let last : (x + m * 2 ^ (8 * suc k)) % 256 ≡ x % 256 = omega (arith, split) in
    let rest : (x + m * 2 ^ (8 * suc k)) / 256 ≡ x / 256 + m * 2 ^ (8 * k) = omega (arith, split) in
    rw (last, rest, low_above k (x / 256) m) refl

-- the lowest k + n bytes are the lowest k and the next n
pub bytes_more : (k n x : ℕ) → little_bytes (k + n) x ≡ little_bytes k x ++ little_bytes n (x / 2 ^ (8 * k))
bytes_more k n x = rw (bytes_are (k + n) x, bytes_are k x, bytes_are n (x / 2 ^ (8 * k))) (low_more k n x)

-- the first n of m bytes are the lowest n
pub bytes_front : (n m x : ℕ) → n ≤ m → take n (little_bytes m x) ≡ little_bytes n x
bytes_front n m x le =
    let split : m ≡ n + (m - n) = omega (arith, le) in
    let size : length (little_bytes n x) ≡ n = length-bytes_low_first 0 n x in
    ap (λ (k : ℕ). take n (little_bytes k x)) split ∙ ap (take n) (bytes_more n (m - n) x)
    ∙ ap (λ (k : ℕ). take k (little_bytes n x ++ little_bytes (m - n) (x / 2 ^ (8 * n)))) (sym size)
    ∙ take-append_seam (little_bytes n x) (little_bytes (m - n) (x / 2 ^ (8 * n)))

-- adding a multiple of 2 ^ (8 * k) leaves the lowest k bytes unchanged
pub bytes_above : (k x m : ℕ) → little_bytes k (x + m * 2 ^ (8 * k)) ≡ little_bytes k x
bytes_above k x m = rw (bytes_are k (x + m * 2 ^ (8 * k)), bytes_are k x) (low_above k x m)

-- each is a byte
low_bytes : (n x i : ℕ) → get_or (low n x) i 0 < 256
unfolding low
low_bytes zero x i = omega arith
low_bytes (suc n) x zero = omega arith
low_bytes (suc n) x (suc i) = low_bytes n (x / 256) i

pub IsBytes-little_bytes : (n x : ℕ) → IsBytes (little_bytes n x)
IsBytes-little_bytes n x i = rw (bytes_are n x) (low_bytes n x i)

-- the little-endian number of the lowest n bytes is x mod 2 ^ (8 * n)
little_low : (n x : ℕ) → little (low n x) ≡ x % 2 ^ (8 * n)
unfolding low
little_low zero x = sym (mod-one x)
little_low (suc n) x =
    let wide : 8 * suc n ≡ 8 * n + 8 = omega arith in
    let split : x % 2 ^ (8 * suc n) ≡ (x / 256 % 2 ^ (8 * n)) * 256 + x % 256 = ap (λ (m : ℕ). x % 2 ^ m) wide
    ∙ mod-pow-add x (8 * n) 8 in
    omega (arith, little_low n (x / 256), split)

pub little-little_bytes : (n x : ℕ) → x < 2 ^ (8 * n) → little (little_bytes n x) ≡ x
little-little_bytes n x lt = rw (bytes_are n x) (little_low n x ∙ mod-eq_of_lt lt)

-- ---- entries as digits of one number

scaled : (a j x p : ℕ) → a * (j + x * p) ≡ a * j + x * (a * p)
scaled a j x p = mul-add a j (x * p)
    ∙ ap (λ (n : ℕ). a * j + n) (sym (mul_assoc a x p) ∙ ap (λ (n : ℕ). n * p) (mul_comm a x) ∙ mul_assoc x a p)

wider : (width n : ℕ) → 2 ^ (width * suc n) ≡ 2 ^ width * 2 ^ (width * n)
wider width n = let e : width * suc n ≡ width + width * n = omega arith in ap (λ (m : ℕ). 2 ^ m) e
    ∙ pow-add 2 width (width * n)

none : (width : ℕ) → 2 ^ (width * 0) ≡ 1
none width = let e : width * 0 ≡ 0 = omega arith in ap (λ (m : ℕ). 2 ^ m) e

-- one entry more
pub packed_number_push : (width : ℕ) (xs : List ℕ) (x : ℕ)
    → packed_number width (xs ++ x ∷ []) ≡ packed_number width xs + x * 2 ^ (width * length xs)
packed_number_push width [] x = rw (none width) (omega arith)
packed_number_push width (y ∷ ys) x =
    rw (
      packed_number_push width ys x,
      wider width (length ys),
      scaled (2 ^ width) (packed_number width ys) x (2 ^ (width * length ys)),
    ) (omega arith)

-- more entries
packed_number_append : (width : ℕ) (xs ys : List ℕ) → packed_number width (xs ++ ys)
    ≡ packed_number width xs + packed_number width ys * 2 ^ (width * length xs)
packed_number_append width [] ys = rw (none width) (omega arith)
packed_number_append width (x ∷ xs) ys =
    rw (
      packed_number_append width xs ys,
      wider width (length xs),
      scaled (2 ^ width) (packed_number width xs) (packed_number width ys) (2 ^ (width * length xs)),
    ) (omega arith)

pub packed_number_below : (width : ℕ) (xs : List ℕ) → EachFits width xs
    → packed_number width xs < 2 ^ (width * length xs)
packed_number_below width [] fits = rw (none width) (omega arith)
packed_number_below width (x ∷ xs) fits =
    let rest : packed_number width xs + 1 ≤ 2 ^ (width * length xs) =
    omega (arith, packed_number_below width xs (λ i. fits (suc i))) in
    rw (wider width (length xs))
    (omega (arith, fits 0, mul-le-mul_left (2 ^ width) rest, mul-add (2 ^ width) (packed_number width xs) 1))

pub packed_number_entry : (width : ℕ) (xs : List ℕ) (i : ℕ) → EachFits width xs → i < length xs
    → packed_number width xs / 2 ^ (width * i) % 2 ^ width ≡ get_or xs i 0
packed_number_entry width [] i fits lt = absurd (omega (arith, lt))
packed_number_entry width (x ∷ xs) zero fits lt =
    rw (none width) (ap (λ (n : ℕ). n % 2 ^ width) (div-one (x + 2 ^ width * packed_number width xs))
    ∙ add-mul-mod_self_left x (2 ^ width) (packed_number width xs) ∙ mod-eq_of_lt (fits 0))
packed_number_entry width (x ∷ xs) (suc i) fits lt =
    let rest : ℕ = packed_number width xs in
    let order : x + 2 ^ width * rest ≡ rest * 2 ^ width + x = omega (arith, mul_comm (2 ^ width) rest) in
    let first : (x + 2 ^ width * rest) / 2 ^ width ≡ rest = ap (λ (n : ℕ). n / 2 ^ width) order
    ∙ shr_high rest width x (fits 0) in
    let place : width * suc i ≡ width + width * i = omega arith in
    ap (λ (n : ℕ). (x + 2 ^ width * rest) / 2 ^ n % 2 ^ width) place
    ∙ ap (λ (n : ℕ). n % 2 ^ width) (sym (shr-shr (x + 2 ^ width * rest) width (width * i))
    ∙ ap (λ (n : ℕ). n / 2 ^ (width * i)) first)
    ∙ packed_number_entry width xs i (λ j. fits (suc j)) (omega (arith, lt))

-- ---- packed entries

pub length-packed : (width : ℕ) (xs : List ℕ) → length (packed width xs) ≡ bytes_for (width * length xs)
unfolding packed
length-packed width xs = length-bytes_low_first 0 (bytes_for (width * length xs)) (packed_number width xs)

pub IsBytes-packed : (width : ℕ) (xs : List ℕ) → IsBytes (packed width xs)
unfolding packed
IsBytes-packed width xs = IsBytes-little_bytes (bytes_for (width * length xs)) (packed_number width xs)

-- entries that take whole bytes, and more entries
pub packed_append : (width : ℕ) (xs ys : List ℕ) → EachFits width xs → width * length xs % 8 ≡ 0
    → packed width (xs ++ ys) ≡ packed width xs ++ packed width ys
unfolding packed
packed_append width xs ys fits whole =
    let n : ℕ = width * length xs in
    let k : ℕ = n / 8 in
    let m : ℕ = bytes_for (width * length ys) in
    let v : ℕ = packed_number width xs in
    let y : ℕ = packed_number width ys in
    let place : n ≡ 8 * k = omega arith in
    let long : width * length (xs ++ ys) ≡ n + width * length ys =
    ap (λ (l : ℕ). width * l) (length-append xs ys) ∙ mul-add width (length xs) (length ys) in
    let size : bytes_for (width * length (xs ++ ys)) ≡ k + m = omega (arith, long, place) in
    let own : bytes_for n ≡ k = omega (arith, place) in
    let sum : packed_number width (xs ++ ys) ≡ v + y * 2 ^ (8 * k) =
    packed_number_append width xs ys ∙ ap (λ (i : ℕ). v + y * 2 ^ i) place in
    let below : v < 2 ^ (8 * k) = subst (λ (i : ℕ). v < 2 ^ i) place (packed_number_below width xs fits) in
    let order : v + y * 2 ^ (8 * k) ≡ y * 2 ^ (8 * k) + v = omega arith in
    let high : (v + y * 2 ^ (8 * k)) / 2 ^ (8 * k) ≡ y =
    ap (λ (i : ℕ). i / 2 ^ (8 * k)) order ∙ shr_high y (8 * k) v below in
    ap (λ (i : ℕ). little_bytes i (packed_number width (xs ++ ys))) size
    ∙ ap (little_bytes (k + m)) sum ∙ bytes_more k m (v + y * 2 ^ (8 * k))
    ∙ ap (λ (l : List ℕ). l ++ little_bytes m ((v + y * 2 ^ (8 * k)) / 2 ^ (8 * k))) (bytes_above k v y)
    ∙ ap (λ (i : ℕ). little_bytes k v ++ little_bytes m i) high
    ∙ ap (λ (i : ℕ). little_bytes i v ++ little_bytes m y) (sym own)

little-packed : (width : ℕ) (xs : List ℕ) → EachFits width xs → little (packed width xs) ≡ packed_number width xs
unfolding packed
little-packed width xs fits =
    let n : ℕ = width * length xs in
    let room : 2 ^ n ≤ 2 ^ (8 * bytes_for n) = pow-le-pow_right (omega arith) (omega arith) in
    little-little_bytes (bytes_for n) (packed_number width xs) (omega (arith, packed_number_below width xs fits, room))

-- entries that were packed are read back
pub entries_packed : (width : ℕ) (xs : List ℕ) → EachFits width xs → entries (packed width xs) width (length xs) ≡ xs
unfolding entries entry
entries_packed width xs fits =
    let number = little-packed width xs fits in
    sym (fill_by_all (entry (packed width xs) width) xs (length xs) 0 refl
    (λ k lt. sym (ap (λ (n : ℕ). n / 2 ^ (width * k) % 2 ^ width) number ∙ packed_number_entry width xs k fits lt)))

bit_small : (b : Bool) → bit_number b < 2
bit_small true = omega arith
bit_small false = omega arith

bit_back : (b : Bool) → eqb (bit_number b) 1 ≡ b
bit_back true = refl
bit_back false = refl

pub bits_fit : (xs : List Bool) → EachFits 1 (map bit_number xs)
bits_fit [] i = omega arith
bits_fit (x ∷ xs) zero = bit_small x
bits_fit (x ∷ xs) (suc i) = bits_fit xs i

pub length-packed_bits : (xs : List Bool) → length (packed_bits xs) ≡ bytes_for (length xs)
unfolding packed_bits
length-packed_bits xs =
    let one : 1 * length (map bit_number xs) ≡ length xs = omega (arith, length-map xs bit_number) in
    length-packed 1 (map bit_number xs) ∙ ap bytes_for one

pub IsBytes-packed_bits : (xs : List Bool) → IsBytes (packed_bits xs)
unfolding packed_bits
IsBytes-packed_bits xs = IsBytes-packed 1 (map bit_number xs)

bit_packed : (xs : List Bool) (k : ℕ) → k < length xs → bit (packed_bits xs) k ≡ get_or xs k false
unfolding packed_bits bit
bit_packed xs k lt =
    let ns : List ℕ = map bit_number xs in
    let inside : k < length ns = omega (arith, length-map xs bit_number, lt) in
    let one : 1 * k ≡ k = omega arith in
    let number : little (packed 1 ns) / 2 ^ k % 2 ≡ bit_number (get_or xs k false) =
    ap (λ (n : ℕ). n / 2 ^ k % 2) (little-packed 1 ns (bits_fit xs))
    ∙ ap (λ (n : ℕ). packed_number 1 ns / 2 ^ n % 2 ^ 1) (sym one)
    ∙ packed_number_entry 1 ns k (bits_fit xs) inside ∙ get_or-map bit_number xs k false 0 lt in
    ap (λ (n : ℕ). eqb n 1) number ∙ bit_back (get_or xs k false)

pub bits_packed : (xs : List Bool) → bits (packed_bits xs) (length xs) ≡ xs
unfolding bits
bits_packed xs = sym (fill_by_all (bit (packed_bits xs)) xs (length xs) false refl (λ k lt. sym (bit_packed xs k lt)))

-- ---- packing one entry after another

-- the entries are packed: all groups of eight bytes are appended, and the remaining bits are in the word
pub record Packs (width : ℕ) (xs : List ℕ) (word filled : ℕ) (before out : List ℕ) : Type 0 where
  pub filled_is : filled ≡ width * length xs % 64
  pub word_is : word ≡ packed_number width xs / 2 ^ (8 * (8 * (width * length xs / 64)))
  pub out_is : out ≡ before ++ little_bytes (8 * (width * length xs / 64)) (packed_number width xs)

-- the word has no more bits than `filled`
pub Packs-word : (width : ℕ) (xs : List ℕ) (word filled : ℕ) (before out : List ℕ) → EachFits width xs
    → Packs width xs word filled before out → word < 2 ^ filled
Packs-word width xs word filled before out fits h =
    let n : ℕ = width * length xs in
    let split : n ≡ n % 64 + 8 * (8 * (n / 64)) = omega arith in
    let below : packed_number width xs < 2 ^ (n % 64 + 8 * (8 * (n / 64))) =
    subst (λ (m : ℕ). packed_number width xs < 2 ^ m) split (packed_number_below width xs fits) in
    rw (h.word_is, h.filled_is) (shr_below (packed_number width xs) (n % 64) (8 * (8 * (n / 64))) below)

-- one entry more
pub Packs-more : (width : ℕ) (xs : List ℕ) (word filled : ℕ) (before out : List ℕ) (x : ℕ)
    → Packs width xs word filled before out
    → Packs width (xs ++ x ∷ []) ((word + x * 2 ^ filled) / 2 ^ (8 * (8 * ((filled + width) / 64))))
    ((filled + width) % 64) before (out ++ little_bytes (8 * ((filled + width) / 64)) (word + x * 2 ^ filled))
Packs-more width xs word filled before out x h =
    let n : ℕ = width * length xs in
    let k : ℕ = 8 * (n / 64) in
    let m : ℕ = 8 * ((filled + width) / 64) in
    let v : ℕ = packed_number width xs in
    let v' : ℕ = packed_number width (xs ++ x ∷ []) in
    let size : width * length (xs ++ x ∷ []) ≡ n + width =
    (let e : length (xs ++ x ∷ []) ≡ suc (length xs) = omega (arith, length-append xs (x ∷ [])) in
    rw e (omega arith)) in
    let split : n ≡ filled + 8 * k = omega (arith, h.filled_is) in
    let place : 2 ^ n ≡ 2 ^ filled * 2 ^ (8 * k) = ap (λ (i : ℕ). 2 ^ i) split ∙ pow-add 2 filled (8 * k) in
    let high : x * 2 ^ n ≡ x * 2 ^ filled * 2 ^ (8 * k) = ap (λ (i : ℕ). x * i) place
    ∙ sym (mul_assoc x (2 ^ filled) (2 ^ (8 * k))) in
    let more : v' ≡ v + x * 2 ^ filled * 2 ^ (8 * k) = packed_number_push width xs x ∙ ap (λ (i : ℕ). v + i) high in
    let above : v' / 2 ^ (8 * k) ≡ word + x * 2 ^ filled =
    ap (λ (i : ℕ). i / 2 ^ (8 * k)) more ∙ add-mul-div_right v (x * 2 ^ filled) (pow_pos (8 * k))
    ∙ ap (λ (i : ℕ). i + x * 2 ^ filled) (sym h.word_is) in
    let k' : 8 * ((n + width) / 64) ≡ k + m = omega (arith, h.filled_is) in
    let r' : (filled + width) % 64 ≡ (n + width) % 64 = omega (arith, h.filled_is) in
    let wide : 8 * k + 8 * m ≡ 8 * (k + m) = omega arith in
    let same : little_bytes k v' ≡ little_bytes k v = ap (little_bytes k) more ∙ bytes_above k v (x * 2 ^ filled) in
    record {
      filled_is = rw size r';
      word_is = rw (size, k', ← wide) (ap (λ (i : ℕ). i / 2 ^ (8 * m)) (sym above) ∙ shr-shr v' (8 * k) (8 * m));
      out_is = rw (
        size,
        k',
        bytes_more k m v',
        above,
        same,
        h.out_is,
      ) (append_assoc before (little_bytes k v) (little_bytes m (word + x * 2 ^ filled)));
    }

-- the word after one entry more has no more bits than `filled`
pub small_next : (word filled width x : ℕ) → word < 2 ^ filled → x < 2 ^ width
    → (word + x * 2 ^ filled) / 2 ^ (8 * (8 * ((filled + width) / 64))) < 2 ^ ((filled + width) % 64)
small_next word filled width x a b =
    let n : ℕ = filled + width in
    let split : n ≡ n % 64 + 8 * (8 * (n / 64)) = omega arith in
    let some : x + 1 ≤ 2 ^ width = omega (arith, b) in
    let wide : 2 ^ n ≡ 2 ^ filled * 2 ^ width = pow-add 2 filled width in
    let high : (x + 1) * 2 ^ filled ≤ 2 ^ filled * 2 ^ width =
    omega (arith, mul-le-mul_left (2 ^ filled) some, mul_comm (x + 1) (2 ^ filled)) in
    let one : (x + 1) * 2 ^ filled ≡ x * 2 ^ filled + 2 ^ filled = omega arith in
    let below : word + x * 2 ^ filled < 2 ^ n = rw wide (omega (arith, a, high, one)) in
    shr_below (word + x * 2 ^ filled) (n % 64) (8 * (8 * (n / 64)))
    (subst (λ (m : ℕ). word + x * 2 ^ filled < 2 ^ m) split below)

-- the same, of a word of 128 bits
pub small_next_word : (word filled width x y : ℕ) → y ≡ x → x < 2 ^ 64 → filled < 64 → word < 2 ^ filled
    → x < 2 ^ width
    → (word + y * 2 ^ filled % 2 ^ 128) / 2 ^ (8 * (8 * ((filled + width) / 64))) < 2 ^ ((filled + width) % 64)
small_next_word word filled width x y is few lt small fits =
    let at : filled ≤ 64 = omega (arith, lt) in
    let room : 2 ^ filled ≤ 2 ^ 64 = pow-le-pow_right (omega arith) at in
    let below : x * 2 ^ filled < 2 ^ 64 * 2 ^ 64 =
    omega (arith, few, mul-le-mul_left x room, mul_comm x (2 ^ filled), mul_comm x (2 ^ 64)) in
    let same : y * 2 ^ filled % 2 ^ 128 ≡ x * 2 ^ filled =
    ap (λ (v : ℕ). v * 2 ^ filled % 2 ^ 128) is ∙ mod-eq_of_lt (omega (arith, below)) in
    rw same (small_next word filled width x small fits)

-- appending the remaining bytes completes the packed bytes
pub Packs-all : (width : ℕ) (xs : List ℕ) (word filled : ℕ) (before out : List ℕ)
    → Packs width xs word filled before out
    → out ++ little_bytes ((filled + 7) / 8) word ≡ before ++ packed width xs
unfolding packed
Packs-all width xs word filled before out h =
    let n : ℕ = width * length xs in
    let k : ℕ = 8 * (n / 64) in
    let whole : bytes_for n ≡ k + (filled + 7) / 8 = omega (arith, h.filled_is) in
    rw (
      whole,
      bytes_more k ((filled + 7) / 8) (packed_number width xs),
      ← h.word_is,
      h.out_is,
    ) (append_assoc before (little_bytes k (packed_number width xs)) (little_bytes ((filled + 7) / 8) word))

-- ---- the invariant of the loop over the entries

pub EachFits-take : (width i : ℕ) (xs : List ℕ) → EachFits width xs → EachFits width (take i xs)
EachFits-take width i xs fits k =
    elim (cases_lt k i) [
      | inl lt ↦ rw (get_or-take i xs k 0 lt) (fits k)
      | inr le ↦ rw (get_or_past (take i xs) k 0 (omega (arith, length-take i xs))) (pow_pos width)
    ]

pub Packs-next : (width i : ℕ) (xs : List ℕ) (word filled : ℕ) (before out : List ℕ) (word' filled' : ℕ) (out' : List ℕ)
    (x : ℕ) → i < length xs → x ≡ get_or xs i 0
    → Packs width (take i xs) word filled before out
    → word' ≡ (word + x * 2 ^ filled) / 2 ^ (8 * (8 * ((filled + width) / 64))) → filled' ≡ (filled + width) % 64
    → out' ≡ out ++ little_bytes (8 * ((filled + width) / 64)) (word + x * 2 ^ filled)
    → Packs width (take (i + 1) xs) word' filled' before out'
Packs-next width i xs word filled before out word' filled' out' x lt is h e1 e2 e3 =
    rw (take_more xs i 0 lt, ← is, e1, e2, e3) (Packs-more width (take i xs) word filled before out x h)

pub Packs-end : (width i : ℕ) (xs : List ℕ) (word filled : ℕ) (before out : List ℕ) (count : ℕ) (out' : List ℕ)
    → length xs ≤ i → count ≡ (filled + 7) / 8
    → Packs width (take i xs) word filled before out → out' ≡ out ++ little_bytes count word
    → out' ≡ before ++ packed width xs
Packs-end width i xs word filled before out count out' le is h e =
    e ∙ ap (λ (n : ℕ). out ++ little_bytes n word) is ∙ Packs-all width (take i xs) word filled before out h
    ∙ ap (λ (t : List ℕ). before ++ packed width t) (take_all i xs le)

pub Packs-keeps : (width : ℕ) (xs : List ℕ) (word filled : ℕ) (before out out' : List ℕ)
    → Packs width xs word filled before out → out' ≡ out → IsPrefixOf before out'
Packs-keeps width xs word filled before out out' h e = ap (take (length before)) (e ∙ h.out_is)
    ∙ take-append_seam before (little_bytes (8 * (width * length xs / 64)) (packed_number width xs))
