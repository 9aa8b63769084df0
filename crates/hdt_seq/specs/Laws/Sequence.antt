-- Laws of the checks that log sequences and bitmaps share: they return exactly what is in the input.
use Rattle.std.proofs.Common.{◌≡◌, ℕ, zero, suc, ◌+◌, ◌*◌, ◌/◌, ◌%◌, ◌-◌, ◌<◌, ◌≤◌, ◌^◌, true, bit_xor, lit<, inl, inr}
use Rattle.std.proofs.Common.{List, [], ◌∷◌, ◌++◌, length, get_or, drop, eqb, Result, Ok, refl, sym, ap, subst, ◌∙◌}
use Rattle.std.proofs.Common.{arith}
use Rattle.std.specs.Prelude.{fold, slice_range}
use Rattle.std.specs.Fn.{iterate}
use Rattle.std.proofs.lemmas.Bool.{cases_Bool, eqb-true}
use Rattle.std.proofs.lemmas.Bool.Decides.{Decides-eqb}
use Rattle.std.proofs.lemmas.List.{length-take, length-drop, get_or-take, get_or-drop}
use Rattle.std.proofs.lemmas.Nat.{xor_lt}
use Rattle.byteorder.specs.Endian.{little_number, little_bytes}
use Rattle.hdt_wire.specs.declared.fault.Fault.{Fault}
use Rattle.hdt_wire.specs.declared.fault.Reason.TheVariants.{Check8, Check32}
use Rattle.hdt_wire.specs.Crc.{shift_right, crc32_step, crc8, crc32}
use Rattle.hdt_wire.specs.Checks.{bytes_at, IsBytes, HasSlice, EncodedAt}
use Rattle.hdt_wire.specs.Laws.Checks.{demand_ok, bind_ok, IsBytes-take, IsBytes-drop, HasSlice-then, HasSlice-front}
use Rattle.hdt_wire.specs.Laws.Checks.{HasSlice-back, HasSlice-after, bytes_found, bytes_only}
use Rattle.hdt_seq.specs.PackedBits.{bytes_for}
use Rattle.hdt_seq.specs.Sequence.{with_crcs, byte_at, crc8_at, packed_at}

-- a slice of bytes is a list of bytes
pub slice_is_bytes : (bytes : List ℕ) (a : ℕ) (x : List ℕ) (e : ℕ) → IsBytes bytes → HasSlice bytes a x e → IsBytes x
slice_is_bytes bytes a x e fits h =
    subst IsBytes h.here (IsBytes-take (e - a) (drop a bytes) (IsBytes-drop a bytes fits))

-- a list that equals a slice is there
pub has_slice_if_equal : (bytes : List ℕ) (a : ℕ) (x : List ℕ) (e : ℕ) → a ≤ e → e ≤ length bytes
    → slice_range bytes a e ≡ x → HasSlice bytes a x e
has_slice_if_equal bytes a x e order within is =
    let size : length x ≡ e - a = ap length (sym is)
    ∙ (omega (arith, length-take (e - a) (drop a bytes), length-drop a bytes, order, within)) in
    record { end_is = omega (arith, size, order); within = within; here = is }

-- the slice that encodes a value is there
pub has_slice_if_encoded : {V : Type 0} (Encodes : List ℕ → V → Type 0) (bytes : List ℕ) (a : ℕ) (v : V) (e : ℕ)
    → EncodedAt Encodes bytes a v e → HasSlice bytes a (slice_range bytes a e) e
has_slice_if_encoded Encodes bytes a v e h =
    has_slice_if_equal bytes a (slice_range bytes a e) e h.in_order h.within refl

-- a text that is there and encodes a value is its encoding there
pub encoded_if_has_slice : {V : Type 0} (Encodes : List ℕ → V
    → Type 0) (bytes : List ℕ) (a : ℕ) (x : List ℕ) (v : V) (e : ℕ) → HasSlice bytes a x e → Encodes x v
    → EncodedAt Encodes bytes a v e
encoded_if_has_slice Encodes bytes a x v e h s = record {
  in_order = omega (arith, h.end_is);
  within = h.within;
  spelled = subst (λ (t : List ℕ). Encodes t v) (sym h.here) s;
}

-- a prefix is at offset 0
pub begins : (a x : List ℕ) → HasSlice (a ++ x) 0 a (length a)
begins a x = let e : 0 + length a ≡ length a = omega arith in
    subst (λ (n : ℕ). HasSlice (a ++ x) 0 a n) e (HasSlice-after [] a x)

-- ---- one byte

one_of : (x : List ℕ) → length x ≡ 1 → x ≡ get_or x 0 0 ∷ []
one_of [] e = absurd (omega (arith, e))
one_of (b ∷ []) e = refl
one_of (b ∷ c ∷ bs) e = absurd (omega (arith, e))

abbrev ok_byte : ℕ × ℕ → Result (ℕ × ℕ) Fault
ok_byte x = Ok x

same_byte : (x y : ℕ × ℕ) → ok_byte x ≡ ok_byte y → x ≡ y
same_byte x y e = cc

pub byte_found : (bytes : List ℕ) (a : ℕ) (x : ℕ × ℕ) → byte_at bytes a ≡ Ok x → HasSlice bytes a (x.0 ∷ []) x.1
unfolding byte_at
byte_found bytes a x e =
    bind_ok (bytes_at 1 bytes a) _ x e (λ one e1 e.
    let s = bytes_found 1 bytes a one e1 in
    let made : HasSlice bytes a (get_or one.0 0 0 ∷ []) one.1 =
    subst (λ (t : List ℕ). HasSlice bytes a t one.1) (one_of one.0 s.1) s.0 in
    subst (λ (y : ℕ × ℕ). HasSlice bytes a (y.0 ∷ []) y.1) (same_byte _ _ e) made)

pub byte_only : (bytes : List ℕ) (a b e : ℕ) → HasSlice bytes a (b ∷ []) e → byte_at bytes a ≡ Ok (b, e)
unfolding byte_at
byte_only bytes a b e h = rw (bytes_only 1 bytes a (b ∷ []) e h refl) refl

-- it is the byte at its offset
pub byte_is : (bytes : List ℕ) (a b e : ℕ) → HasSlice bytes a (b ∷ []) e → get_or bytes a 0 ≡ b
byte_is bytes a b e h =
    let one : e - a ≡ 1 = omega (arith, h.end_is) in
    let here : a + 0 ≡ a = omega arith in
    ap (λ (i : ℕ). get_or bytes i 0) (sym here) ∙ sym (get_or-drop a bytes 0 0)
    ∙ sym (get_or-take (e - a) (drop a bytes) 0 0 (omega arith)) ∙ ap (λ (t : List ℕ). get_or t 0 0) h.here

-- ---- the preamble and its CRC-8

abbrev ok_place : ℕ → Result ℕ Fault
ok_place x = Ok x

same_place : (x y : ℕ) → ok_place x ≡ ok_place y → x ≡ y
same_place x y e = cc

pub crc8_found : (bytes : List ℕ) (start : ℕ) (head : List ℕ) (at end : ℕ) → HasSlice bytes start head at
    → crc8_at bytes start at ≡ Ok end → HasSlice bytes at (crc8 head ∷ []) end
unfolding crc8_at
crc8_found bytes start head at end h e =
    bind_ok (byte_at bytes at) _ end e (λ code e1 e.
    demand_ok (eqb code.0 (crc8 (slice_range bytes start at))) at Check8 _ end e (λ h1 e.
    let s = byte_found bytes at code e1 in
    let is : code.0 ≡ crc8 head = eqb-true _ _ h1 ∙ ap crc8 h.here in
    let made : HasSlice bytes at (crc8 head ∷ []) code.1 = subst (λ (n : ℕ). HasSlice bytes at (n ∷ []) code.1) is s in
    subst (λ (y : ℕ). HasSlice bytes at (crc8 head ∷ []) y) (same_place _ _ e) made))

pub crc8_only : (bytes : List ℕ) (start : ℕ) (head : List ℕ) (at end : ℕ) → HasSlice bytes start head at
    → HasSlice bytes at (crc8 head ∷ []) end → crc8_at bytes start at ≡ Ok end
unfolding crc8_at
crc8_only bytes start head at end h s =
    let holds : eqb (crc8 head) (crc8 (slice_range bytes start at)) ≡ true =
    (Decides-eqb _ _).1 (ap crc8 (sym h.here)) in
    rw (byte_only bytes at (crc8 head) end s, holds) refl

-- ---- the packed bytes and their CRC-32C

-- four bytes are the little-endian bytes of their number
four_bytes : (bs : List ℕ) → length bs ≡ 4 → IsBytes bs → little_bytes 4 (little_number 4 bs) ≡ bs
four_bytes [] size fits = absurd (omega (arith, size))
four_bytes (a ∷ []) size fits = absurd (omega (arith, size))
four_bytes (a ∷ b ∷ []) size fits = absurd (omega (arith, size))
four_bytes (a ∷ b ∷ c ∷ []) size fits = absurd (omega (arith, size))
four_bytes (a ∷ b ∷ c ∷ d ∷ []) size fits =
    let f0 : a < 256 = fits 0 in
    let f1 : b < 256 = fits 1 in
    let f2 : c < 256 = fits 2 in
    let f3 : d < 256 = fits 3 in
    let n : ℕ = a + 256 * (b + 256 * (c + 256 * (d + 0))) in
    let e0 : n % 256 ≡ a = omega (arith, f0) in
    let e1 : n / 256 % 256 ≡ b = omega (arith, f0, f1) in
    let e2 : n / 65536 % 256 ≡ c = omega (arith, f0, f1, f2) in
    let e3 : n / 16777216 % 256 ≡ d = omega (arith, f0, f1, f2, f3) in
    rw (e0, e1, e2, e3) refl
four_bytes (a ∷ b ∷ c ∷ d ∷ e ∷ bs) size fits = absurd (omega (arith, size))

-- a number below 2 ^ 32 is that of its four little-endian bytes
four_back : (n : ℕ) → n < 2 ^ 32 → little_number 4 (little_bytes 4 n) ≡ n
four_back n small = omega (arith, small)

-- a register of 32 bits stays below 2 ^ 32
fits_shift : (register : ℕ) → register < 2 ^ 32 → shift_right 0x82F63B78 register < 2 ^ 32
unfolding shift_right
fits_shift register small =
    let half : register / 2 < 2 ^ 32 = omega arith in
    let tapped : bit_xor (register / 2) 0x82F63B78 < 2 ^ 32 = xor_lt 32 (register / 2) 0x82F63B78 half (lit< tt) in
    elim (cases_Bool (eqb (register % 2) 1)) [ inl e ↦ rw e tapped | inr e ↦ rw e half ]

fits_shifts : (n register : ℕ) → register < 2 ^ 32 → iterate (shift_right 0x82F63B78) n register < 2 ^ 32
fits_shifts zero register small = small
fits_shifts (suc n) register small = fits_shifts n (shift_right 0x82F63B78 register) (fits_shift register small)

fits_take : (register byte : ℕ) → register < 2 ^ 32 → byte < 256 → crc32_step register byte < 2 ^ 32
unfolding crc32_step
fits_take register byte small lt = fits_shifts 8 (bit_xor register byte) (xor_lt 32 register byte small (omega arith))

fits_fold : (register : ℕ) (bytes : List ℕ) → register < 2 ^ 32 → IsBytes bytes
    → fold crc32_step register bytes < 2 ^ 32
fits_fold register [] small fits = small
fits_fold register (b ∷ bs) small fits =
    fits_fold (crc32_step register b) bs (fits_take register b small (fits 0)) (λ i. fits (suc i))

-- the CRC-32C of bytes is below 2 ^ 32
pub crc32_fits : (bytes : List ℕ) → IsBytes bytes → crc32 bytes < 2 ^ 32
crc32_fits bytes fits = xor_lt 32 (fold crc32_step 0xFFFFFFFF bytes) 0xFFFFFFFF
    (fits_fold 0xFFFFFFFF bytes (lit< tt) fits) (lit< tt)

abbrev ok_bytes : List ℕ × ℕ → Result (List ℕ × ℕ) Fault
ok_bytes x = Ok x

same_bytes : (x y : List ℕ × ℕ) → ok_bytes x ≡ ok_bytes y → x ≡ y
same_bytes x y e = cc

pub packed_found : (n : ℕ) (bytes : List ℕ) (at : ℕ) (x : List ℕ × ℕ) → IsBytes bytes → packed_at n bytes at ≡ Ok x
    → HasSlice bytes at (x.0 ++ little_bytes 4 (crc32 x.0)) x.1 × (length x.0 ≡ bytes_for n)
unfolding packed_at
packed_found n bytes at x fits e =
    bind_ok (bytes_at (bytes_for n) bytes at) _ x e (λ packed e1 e.
    bind_ok (bytes_at 4 bytes packed.1) _ x e (λ code e2 e.
    demand_ok (eqb (little_number 4 code.0) (crc32 packed.0)) packed.1 Check32 _ x e (λ h e.
    let s = bytes_found (bytes_for n) bytes at packed e1 in
    let t = bytes_found 4 bytes packed.1 code e2 in
    let tail : code.0 ≡ little_bytes 4 (crc32 packed.0) =
    sym (four_bytes code.0 t.1 (slice_is_bytes bytes packed.1 code.0 code.1 fits t.0))
    ∙ ap (little_bytes 4) (eqb-true _ _ h) in
    let t' : HasSlice bytes packed.1 (little_bytes 4 (crc32 packed.0)) code.1 =
    subst (λ (b : List ℕ). HasSlice bytes packed.1 b code.1) tail t.0 in
    let made : HasSlice bytes at (packed.0 ++ little_bytes 4 (crc32 packed.0)) code.1
    × (length packed.0 ≡ bytes_for n) = (HasSlice-then bytes at packed.0 packed.1 _ code.1 s.0 t', s.1) in
    subst (λ (y : List ℕ × ℕ). HasSlice bytes at (y.0 ++ little_bytes 4 (crc32 y.0)) y.1
    × (length y.0 ≡ bytes_for n)) (same_bytes _ _ e) made)))

pub packed_only : (n : ℕ) (bytes : List ℕ) (at : ℕ) (packed : List ℕ) (end : ℕ) → IsBytes packed
    → length packed ≡ bytes_for n
    → HasSlice bytes at (packed ++ little_bytes 4 (crc32 packed)) end → packed_at n bytes at ≡ Ok (packed, end)
unfolding packed_at
packed_only n bytes at packed end fits size h =
    let tail : List ℕ = little_bytes 4 (crc32 packed) in
    let first = bytes_only (bytes_for n) bytes at packed (at + length packed)
    (HasSlice-front bytes at packed tail end h) size in
    let second = bytes_only 4 bytes (at + length packed) tail end (HasSlice-back bytes at packed tail end h) refl in
    let number : eqb (little_number 4 tail) (crc32 packed) ≡ true =
    (Decides-eqb _ _).1 (four_back (crc32 packed) (crc32_fits packed fits)) in
    rw (first, second, number) refl

-- ---- the complete sequence

-- consecutive parts that were read are a sequence
pub with_crcs_found : (bits : ℕ) (bytes : List ℕ) (start : ℕ) (head : List ℕ) (at packed_start : ℕ) (x : List ℕ × ℕ)
    → IsBytes bytes → HasSlice bytes start head at
    → crc8_at bytes start at ≡ Ok packed_start → packed_at bits bytes packed_start ≡ Ok x
    → HasSlice bytes start (with_crcs head x.0) x.1 × (length x.0 ≡ bytes_for bits)
with_crcs_found bits bytes start head at packed_start x fits h e1 e2 =
    let code = crc8_found bytes start head at packed_start h e1 in
    let packed = packed_found bits bytes packed_start x fits e2 in
    let back : HasSlice bytes at (crc8 head ∷ (x.0 ++ little_bytes 4 (crc32 x.0))) x.1 =
    HasSlice-then bytes at (crc8 head ∷ []) packed_start _ x.1 code packed.0 in
    (HasSlice-then bytes start head at _ x.1 h back, packed.1)

-- the checks return both parts after a preamble
pub record FramedParts (bits : ℕ) (bytes : List ℕ) (start : ℕ) (head packed : List ℕ) (end : ℕ) : Type 0 where
  pub head_is : HasSlice bytes start head (start + length head)
  pub code_is : crc8_at bytes start (start + length head) ≡ Ok (start + length head + 1)
  pub packed_is : packed_at bits bytes (start + length head + 1) ≡ Ok (packed, end)

pub with_crcs_only : (bits : ℕ) (bytes : List ℕ) (start : ℕ) (head packed : List ℕ) (end : ℕ) → IsBytes packed
    → length packed ≡ bytes_for bits
    → HasSlice bytes start (with_crcs head packed) end → FramedParts bits bytes start head packed end
with_crcs_only bits bytes start head packed end fits size h =
    let rest : List ℕ = packed ++ little_bytes 4 (crc32 packed) in
    let front = HasSlice-front bytes start head (crc8 head ∷ rest) end h in
    let back = HasSlice-back bytes start head (crc8 head ∷ rest) end h in
    let code = HasSlice-front bytes (start + length head) (crc8 head ∷ []) rest end back in
    let tail = HasSlice-back bytes (start + length head) (crc8 head ∷ []) rest end back in
    record {
      head_is = front;
      code_is = crc8_only bytes start head (start + length head) (start + length head + 1) front code;
      packed_is = packed_only bits bytes (start + length head + 1) packed end fits size tail;
    }

-- the packed bytes of a sequence in the input are bytes
pub packed_bytes : (bytes : List ℕ) (start : ℕ) (head packed : List ℕ) (end : ℕ) → IsBytes bytes
    → HasSlice bytes start (with_crcs head packed) end → IsBytes packed
packed_bytes bytes start head packed end fits h =
    let tail : List ℕ = little_bytes 4 (crc32 packed) in
    let back = HasSlice-back bytes start head (crc8 head ∷ (packed ++ tail)) end h in
    let rest = HasSlice-back bytes (start + length head) (crc8 head ∷ []) (packed ++ tail) end back in
    slice_is_bytes bytes (start + length head + 1) packed _ fits
    (HasSlice-front bytes (start + length head + 1) packed tail end rest)
