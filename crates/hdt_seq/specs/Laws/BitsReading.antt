-- Laws of reading bitmaps: the reader returns exactly what is encoded.
use Rattle.std.proofs.Common.{◌≡◌, ℕ, ◌+◌, ◌<◌, ◌^◌, Bool, true, List, [], ◌∷◌, ◌++◌, length, eqb, ltb, Result, Ok}
use Rattle.std.proofs.Common.{refl, sym, ap, subst, ◌∙◌, arith}
use Rattle.std.specs.Prelude.{slice_range}
use Rattle.std.proofs.lemmas.Bool.{eqb-true, ltb-true, lt-ltb}
use Rattle.hdt_wire.specs.declared.fault.Fault.{Fault}
use Rattle.hdt_wire.specs.declared.fault.Reason.TheVariants.{BitsKind, NoTriples}
use Rattle.hdt_wire.specs.Checks.{IsBytes, HasSlice, EncodedAt}
use Rattle.hdt_wire.specs.Laws.Checks.{demand_ok, bind_ok, HasSlice-then, HasSlice-front, HasSlice-back, HasSlice-after}
use Rattle.hdt_wire.specs.VByte.{VByte, vbyte, vbyte_at}
use Rattle.hdt_wire.specs.Laws.VByte.{vbyte_found, vbyte_only, vbyte_bounded, vbyte_unique, vbyte_encodes}
use Rattle.hdt_seq.specs.PackedBits.{bytes_for, bits, packed_bits}
use Rattle.hdt_seq.specs.Laws.LittleEndian.{length-bits}
use Rattle.hdt_seq.specs.Laws.Packing.{length-packed_bits, IsBytes-packed_bits, bits_packed}
use Rattle.hdt_seq.specs.Sequence.{Sequence, with_crcs, byte_at, crc8_at, packed_at}
use Rattle.hdt_seq.specs.Laws.Sequence.{byte_found, byte_only, crc8_found, with_crcs_found, with_crcs_only}
use Rattle.hdt_seq.specs.Laws.Sequence.{packed_bytes, has_slice_if_encoded, encoded_if_has_slice, begins}
use Rattle.hdt_seq.specs.Bits.{EncodesBits, bits_at, expected_bits_offsets, bits_encoding}

-- the bits are encoded from the offset up to the end, with the offsets of the format
pub record BitsFound (bytes : List ℕ) (at : ℕ) (s : Sequence Bool) : Type 0 where
  pub spelled : EncodedAt EncodesBits bytes at s.items s.end
  pub has_offsets : s.offsets ≡ expected_bits_offsets at (length s.items)

abbrev ok_sequence : Sequence Bool → Result (Sequence Bool) Fault
ok_sequence x = Ok x

same_sequence : (x y : Sequence Bool) → ok_sequence x ≡ ok_sequence y → x ≡ y
same_sequence x y e = cc

-- the parts that were read are a bitmap
together : (bytes : List ℕ) (at : ℕ) (kind count : ℕ × ℕ) (start : ℕ) (packed : List ℕ × ℕ) → IsBytes bytes → kind.0 ≡ 1
    → 0 < count.0
    → byte_at bytes at ≡ Ok kind → vbyte_at bytes kind.1 ≡ Ok count → crc8_at bytes at count.1 ≡ Ok start
    → packed_at count.0 bytes start ≡ Ok packed
    → BitsFound bytes at (record {
      items = bits packed.0 count.0;
      offsets =
          record { count = kind.1; packed = start; width = 1 };
      end = packed.1;
    })
together bytes at kind count start packed fits one some e1 e3 e4 e5 =
    let n : ℕ = count.0 in
    let text : List ℕ = slice_range bytes kind.1 count.1 in
    let s1 : HasSlice bytes at (1 ∷ []) kind.1 =
    subst (λ (b : ℕ). HasSlice bytes at (b ∷ []) kind.1) one (byte_found bytes at kind e1) in
    let v = vbyte_found bytes kind.1 count fits e3 in
    let b = vbyte_bounded bytes kind.1 count e3 in
    let s3 = has_slice_if_encoded VByte bytes kind.1 n count.1 v in
    let head = HasSlice-then bytes at (1 ∷ []) kind.1 text count.1 s1 s3 in
    let s4 = crc8_found bytes at (1 ∷ text) count.1 start head e4 in
    let f = with_crcs_found n bytes at (1 ∷ text) count.1 start packed fits head e4 e5 in
    let size = length-bits packed.0 n in
    let number : text ≡ vbyte n = vbyte_unique text n b.value v.spelled in
    let is : EncodesBits (with_crcs (1 ∷ text) packed.0) (bits packed.0 n) = (
      rw size some,
      record {
        packed = packed.0;
        count_fits = rw size b.value;
        size = omega (arith, size, f.1);
        holds = rw size refl;
        whole = ap (λ (t : List ℕ). with_crcs (1 ∷ t) packed.0) (number ∙ ap vbyte (sym size));
      },
    ) in
    let p1 : kind.1 ≡ at + 1 = s1.end_is in
    let p3 : start ≡ at + 2 + length (vbyte n) = omega (arith, p1, s3.end_is, s4.end_is, ap length number) in
    record {
      spelled = encoded_if_has_slice EncodesBits bytes at _ _ packed.1 f.0 is;
      has_offsets = rw (size, p1, p3) refl;
    }

-- what is returned is encoded there
pub bits_found : (bytes : List ℕ) (at : ℕ) (s : Sequence Bool) → IsBytes bytes → bits_at bytes at ≡ Ok s
    → BitsFound bytes at s
unfolding bits_at
bits_found bytes at s fits e =
    bind_ok (byte_at bytes at) _ s e (λ kind e1 e. demand_ok (eqb kind.0 1) at BitsKind _ s e (λ h1 e.
    bind_ok (vbyte_at bytes kind.1) _ s e (λ count e3 e.
    bind_ok (crc8_at bytes at count.1) _ s e (λ start e4 e. demand_ok (ltb 0 count.0) kind.1 NoTriples _ s e (λ h2 e.
    bind_ok (packed_at count.0 bytes start) _ s e (λ packed e5 e.
    let made = together bytes at kind count start packed fits (eqb-true _ _ h1) (ltb-true _ _ h2) e1 e3 e4 e5 in
    subst (BitsFound bytes at) (same_sequence _ _ e) made))))))

-- what is encoded there is returned
encoding_read : (bytes : List ℕ) (at : ℕ) (text : List ℕ) (xs : List Bool) (end : ℕ) (s : EncodesBits text xs)
    → IsBytes s.1.packed → HasSlice bytes at text end
    → bits_at bytes at ≡ Ok (record { items = xs; offsets = expected_bits_offsets at (length xs); end = end })
unfolding bits_at
encoding_read bytes at text xs end s fits h =
    let e = s.1 in
    let count : List ℕ = vbyte (length xs) in
    let head : List ℕ = 1 ∷ count in
    let slice = subst (λ (t : List ℕ). HasSlice bytes at t end) e.whole h in
    let size : length e.packed ≡ bytes_for (length xs) = omega (arith, e.size) in
    let f = with_crcs_only (length xs) bytes at head e.packed end fits size slice in
    let r1 = byte_only bytes at 1 (at + 1) (HasSlice-front bytes at (1 ∷ []) count _ f.head_is) in
    let t1 = HasSlice-back bytes at (1 ∷ []) count _ f.head_is in
    let r3 = vbyte_only bytes (at + 1) (length xs) (at + length head) e.count_fits
    (encoded_if_has_slice VByte bytes (at + 1) count (length xs) _ t1 (vbyte_encodes (length xs) e.count_fits)) in
    let p3 : at + length head + 1 ≡ at + 2 + length (vbyte (length xs)) = omega arith in
    let some : ltb 0 (length xs) ≡ true = lt-ltb 0 (length xs) s.0 in
    rw (r1, r3, f.code_is, some, f.packed_is, e.holds, p3) refl

pub bits_only : (bytes : List ℕ) (at : ℕ) (xs : List Bool) (end : ℕ) → IsBytes bytes
    → EncodedAt EncodesBits bytes at xs end
    → bits_at bytes at ≡ Ok (record { items = xs; offsets = expected_bits_offsets at (length xs); end = end })
bits_only bytes at xs end fits h =
    let s = h.spelled in
    let here = has_slice_if_encoded EncodesBits bytes at xs end h in
    let whole = subst (λ (t : List ℕ). HasSlice bytes at t end) s.1.whole here in
    encoding_read bytes at _ xs end s (packed_bytes bytes at (1 ∷ vbyte (length xs)) s.1.packed end fits whole) here

-- ---- what was written

-- the canonical encoding encodes the bits
pub bits_encodes : (xs : List Bool) → 0 < length xs → length xs < 2 ^ 64 → EncodesBits (bits_encoding xs) xs
unfolding bits_encoding
bits_encodes xs some lt = (
  some,
  record {
    packed = packed_bits xs;
    count_fits = lt;
    size = omega (arith, length-packed_bits xs);
    holds = bits_packed xs;
    whole = refl;
  },
)

-- it is read back, whatever precedes and follows it
pub bits_again : (before after : List ℕ) (xs : List Bool) → 0 < length xs → length xs < 2 ^ 64
    → bits_at (before ++ bits_encoding xs ++ after) (length before)
    ≡ Ok (record {
      items = xs;
      offsets = expected_bits_offsets (length before) (length xs);
      end =
          length before + length (bits_encoding xs);
    })
unfolding bits_encodes
bits_again before after xs some lt =
    encoding_read (before ++ bits_encoding xs ++ after) (length before) (bits_encoding xs) xs _
    (bits_encodes xs some lt) (IsBytes-packed_bits xs)
    (HasSlice-after before (bits_encoding xs) after)

-- ---- unique decoding

-- an encoding is that of one list, and no prefix of another encoding
pub bits_begin_no_other : (a b x y : List ℕ) (xs ys : List Bool) → IsBytes (a ++ x) → EncodesBits a xs
    → EncodesBits b ys → a ++ x ≡ b ++ y → (a ≡ b) × (xs ≡ ys)
bits_begin_no_other a b x y xs ys fits h k e =
    let sa = begins a x in
    let sb : HasSlice (a ++ x) 0 b (length b) =
    subst (λ (t : List ℕ). HasSlice t 0 b (length b)) (sym e) (begins b y) in
    let ra = bits_only (a ++ x) 0 xs (length a) fits
    (encoded_if_has_slice EncodesBits (a ++ x) 0 a xs (length a) sa h) in
    let rb = bits_only (a ++ x) 0 ys (length b) fits
    (encoded_if_has_slice EncodesBits (a ++ x) 0 b ys (length b) sb k) in
    let same = same_sequence _ _ (sym ra ∙ rb) in
    let size : length a ≡ length b = ap (λ (s : Sequence Bool). s.end) same in
    (sym sa.here ∙ ap (λ (n : ℕ). slice_range (a ++ x) 0 n) size ∙ sb.here, ap (λ (s : Sequence Bool). s.items) same)
