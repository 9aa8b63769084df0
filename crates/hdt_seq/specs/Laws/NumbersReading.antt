-- Laws of reading log sequences: the reader returns exactly what is encoded.
use Rattle.std.proofs.Common.{◌≡◌, ℕ, ◌+◌, ◌*◌, ◌<◌, ◌≤◌, ◌^◌, true, List, [], ◌∷◌, ◌++◌, length, get_or, eqb, leb}
use Rattle.std.proofs.Common.{Result, Ok, refl, sym, ap, subst, ◌∙◌, arith}
use Rattle.std.specs.Prelude.{slice_range}
use Rattle.std.proofs.lemmas.Bool.{eqb-true, leb-true, le-leb}
use Rattle.hdt_wire.specs.declared.fault.Fault.{Fault}
use Rattle.hdt_wire.specs.declared.fault.Reason.TheVariants.{SequenceKind, Width}
use Rattle.hdt_wire.specs.Checks.{IsBytes, HasSlice, EncodedAt}
use Rattle.hdt_wire.specs.Laws.Checks.{demand_ok, bind_ok, HasSlice-then, HasSlice-front, HasSlice-back, HasSlice-after}
use Rattle.hdt_wire.specs.VByte.{VByte, vbyte, vbyte_at}
use Rattle.hdt_wire.specs.Laws.VByte.{vbyte_found, vbyte_only, vbyte_bounded, vbyte_unique, vbyte_encodes}
use Rattle.hdt_seq.specs.PackedBits.{entries, packed}
use Rattle.hdt_seq.specs.Laws.LittleEndian.{length-entries}
use Rattle.hdt_seq.specs.Width.{width_of}
use Rattle.hdt_seq.specs.Laws.Width.{width_fits, width_narrow}
use Rattle.hdt_seq.specs.PackedBits.{EachFits}
use Rattle.hdt_seq.specs.Laws.Packing.{length-packed, IsBytes-packed, entries_packed}
use Rattle.hdt_seq.specs.Sequence.{Sequence, with_crcs, byte_at, crc8_at, packed_at}
use Rattle.hdt_seq.specs.Laws.Sequence.{byte_found, byte_only, byte_is, crc8_found, with_crcs_found, with_crcs_only}
use Rattle.hdt_seq.specs.Laws.Sequence.{packed_bytes, has_slice_if_encoded, encoded_if_has_slice, begins}
use Rattle.hdt_seq.specs.Numbers.{EncodesNumbers, numbers_at, expected_numbers_offsets, numbers_encoding}

-- the entries are encoded from the offset up to the end, with the offsets of the format
pub record NumbersFound (bytes : List ℕ) (at : ℕ) (s : Sequence ℕ) : Type 0 where
  pub spelled : EncodedAt EncodesNumbers bytes at s.items s.end
  pub has_offsets : s.offsets ≡ expected_numbers_offsets at (get_or bytes (at + 1) 0) (length s.items)

abbrev ok_sequence : Sequence ℕ → Result (Sequence ℕ) Fault
ok_sequence x = Ok x

same_sequence : (x y : Sequence ℕ) → ok_sequence x ≡ ok_sequence y → x ≡ y
same_sequence x y e = cc

-- the parts that were read are a log sequence
together : (bytes : List ℕ) (at : ℕ) (kind width count : ℕ × ℕ) (start : ℕ) (packed : List ℕ × ℕ) → IsBytes bytes
    → kind.0 ≡ 1 → width.0 ≤ 64
    → byte_at bytes at ≡ Ok kind → byte_at bytes kind.1 ≡ Ok width → vbyte_at bytes width.1 ≡ Ok count
    → crc8_at bytes at count.1 ≡ Ok start → packed_at (width.0 * count.0) bytes start ≡ Ok packed
    → NumbersFound bytes at (record {
      items = entries packed.0 width.0 count.0;
      offsets =
          record { count = width.1; packed = start; width = width.0 };
      end = packed.1;
    })
together bytes at kind width count start packed fits one narrow e1 e2 e3 e4 e5 =
    let w : ℕ = width.0 in
    let n : ℕ = count.0 in
    let text : List ℕ = slice_range bytes width.1 count.1 in
    let s1 : HasSlice bytes at (1 ∷ []) kind.1 =
    subst (λ (b : ℕ). HasSlice bytes at (b ∷ []) kind.1) one (byte_found bytes at kind e1) in
    let s2 = byte_found bytes kind.1 width e2 in
    let v = vbyte_found bytes width.1 count fits e3 in
    let b = vbyte_bounded bytes width.1 count e3 in
    let s3 = has_slice_if_encoded VByte bytes width.1 n count.1 v in
    let head = HasSlice-then bytes at (1 ∷ []) kind.1 (w ∷ text) count.1 s1
    (HasSlice-then bytes kind.1 (w ∷ []) width.1 text count.1 s2 s3) in
    let s4 = crc8_found bytes at (1 ∷ w ∷ text) count.1 start head e4 in
    let f = with_crcs_found (w * n) bytes at (1 ∷ w ∷ text) count.1 start packed fits head e4 e5 in
    let size = length-entries packed.0 w n in
    let number : text ≡ vbyte n = vbyte_unique text n b.value v.spelled in
    let is : EncodesNumbers (with_crcs (1 ∷ w ∷ text) packed.0) (entries packed.0 w n) = (
      w,
      narrow,
      record {
        packed = packed.0;
        count_fits = rw size b.value;
        size = rw size f.1;
        holds = rw size refl;
        whole = ap (λ (t : List ℕ). with_crcs (1 ∷ w ∷ t) packed.0) (number ∙ ap vbyte (sym size));
      },
    ) in
    let p1 : kind.1 ≡ at + 1 = s1.end_is in
    let p2 : width.1 ≡ at + 2 = omega (arith, p1, s2.end_is) in
    let p3 : start ≡ at + 3 + length (vbyte n) = omega (arith, p2, s3.end_is, s4.end_is, ap length number) in
    let wide : w ≡ get_or bytes (at + 1) 0 = sym (byte_is bytes kind.1 w width.1 s2)
    ∙ ap (λ (i : ℕ). get_or bytes i 0) p1 in
    record {
      spelled = encoded_if_has_slice EncodesNumbers bytes at _ _ packed.1 f.0 is;
      has_offsets = rw (size, p2, p3, ← wide) refl;
    }

-- what is returned is encoded there
pub numbers_found : (bytes : List ℕ) (at : ℕ) (s : Sequence ℕ) → IsBytes bytes → numbers_at bytes at ≡ Ok s
    → NumbersFound bytes at s
unfolding numbers_at
numbers_found bytes at s fits e =
    bind_ok (byte_at bytes at) _ s e (λ kind e1 e. demand_ok (eqb kind.0 1) at SequenceKind _ s e (λ h1 e.
    bind_ok (byte_at bytes kind.1) _ s e (λ width e2 e. demand_ok (leb width.0 64) kind.1 Width _ s e (λ h2 e.
    bind_ok (vbyte_at bytes width.1) _ s e (λ count e3 e.
    bind_ok (crc8_at bytes at count.1) _ s e (λ start e4 e.
    bind_ok (packed_at (width.0 * count.0) bytes start) _ s e (λ packed e5 e.
    let made = together bytes at kind width count start packed fits (eqb-true _ _ h1)
    (leb-true _ _ h2) e1 e2 e3 e4 e5 in
    subst (NumbersFound bytes at) (same_sequence _ _ e) made)))))))

-- what is encoded there is returned
encoding_read : (bytes : List ℕ) (at : ℕ) (text xs : List ℕ) (end : ℕ) (s : EncodesNumbers text xs) → IsBytes s.2.packed
    → HasSlice bytes at text end
    → numbers_at bytes at ≡ Ok (record {
      items = xs;
      offsets = expected_numbers_offsets at s.0 (length xs);
      end =
          end;
    })
unfolding numbers_at
encoding_read bytes at text xs end s fits h =
    let e = s.2 in
    let count : List ℕ = vbyte (length xs) in
    let head : List ℕ = 1 ∷ s.0 ∷ count in
    let slice = subst (λ (t : List ℕ). HasSlice bytes at t end) e.whole h in
    let f = with_crcs_only (s.0 * length xs) bytes at head e.packed end fits e.size slice in
    let r1 = byte_only bytes at 1 (at + 1) (HasSlice-front bytes at (1 ∷ []) (s.0 ∷ count) _ f.head_is) in
    let t1 = HasSlice-back bytes at (1 ∷ []) (s.0 ∷ count) _ f.head_is in
    let r2 = byte_only bytes (at + 1) s.0 (at + 1 + 1) (HasSlice-front bytes (at + 1) (s.0 ∷ []) count _ t1) in
    let t2 = HasSlice-back bytes (at + 1) (s.0 ∷ []) count _ t1 in
    let r3 = vbyte_only bytes (at + 1 + 1) (length xs) (at + length head) e.count_fits
    (encoded_if_has_slice VByte bytes (at + 1 + 1) count (length xs) _ t2 (vbyte_encodes (length xs) e.count_fits)) in
    let p2 : at + 1 + 1 ≡ at + 2 = omega arith in
    let p3 : at + length head + 1 ≡ at + 3 + length (vbyte (length xs)) = omega arith in
    let narrow : leb s.0 64 ≡ true = le-leb s.0 64 s.1 in
    let holds : entries e.packed s.0 (length xs) ≡ xs = e.holds in
    rw (r1, r2, narrow, r3, f.code_is, f.packed_is, holds, p2, p3) refl

pub numbers_only : (bytes : List ℕ) (at : ℕ) (xs : List ℕ) (end : ℕ) → IsBytes bytes
    → (h : EncodedAt EncodesNumbers bytes at xs end)
    → numbers_at bytes at ≡ Ok (record {
      items = xs;
      offsets = expected_numbers_offsets at h.spelled.0 (length xs);
      end = end;
    })
numbers_only bytes at xs end fits h =
    let s = h.spelled in
    let here = has_slice_if_encoded EncodesNumbers bytes at xs end h in
    let whole = subst (λ (t : List ℕ). HasSlice bytes at t end) s.2.whole here in
    encoding_read bytes at _ xs end s
    (packed_bytes bytes at (1 ∷ s.0 ∷ vbyte (length xs)) s.2.packed end fits whole) here

-- ---- what was written

-- the canonical encoding encodes the numbers
pub numbers_encodes : (xs : List ℕ) → length xs < 2 ^ 64 → EachFits 64 xs → EncodesNumbers (numbers_encoding xs) xs
unfolding numbers_encoding
numbers_encodes xs lt fits = (
  width_of xs,
  width_narrow xs fits,
  record {
    packed = packed (width_of xs) xs;
    count_fits = lt;
    size = length-packed (width_of xs) xs;
    holds = entries_packed (width_of xs) xs (width_fits xs);
    whole = refl;
  },
)

-- it is read back, whatever precedes and follows it
pub numbers_again : (before after xs : List ℕ) → length xs < 2 ^ 64 → EachFits 64 xs
    → numbers_at (before ++ numbers_encoding xs ++ after) (length before)
    ≡ Ok (record {
      items = xs;
      offsets = expected_numbers_offsets (length before) (width_of xs) (length xs);
      end =
          length before + length (numbers_encoding xs);
    })
unfolding numbers_encodes
numbers_again before after xs lt fits =
    encoding_read (before ++ numbers_encoding xs ++ after) (length before) (numbers_encoding xs) xs _
    (numbers_encodes xs lt fits) (IsBytes-packed (width_of xs) xs)
    (HasSlice-after before (numbers_encoding xs) after)

-- ---- unique decoding

-- an encoding is that of one list, and no prefix of another encoding
pub numbers_begin_no_other : (a b x y : List ℕ) (xs ys : List ℕ) → IsBytes (a ++ x) → EncodesNumbers a xs
    → EncodesNumbers b ys → a ++ x ≡ b ++ y → (a ≡ b) × (xs ≡ ys)
numbers_begin_no_other a b x y xs ys fits h k e =
    let sa = begins a x in
    let sb : HasSlice (a ++ x) 0 b (length b) =
    subst (λ (t : List ℕ). HasSlice t 0 b (length b)) (sym e) (begins b y) in
    let ra = numbers_only (a ++ x) 0 xs (length a) fits
    (encoded_if_has_slice EncodesNumbers (a ++ x) 0 a xs (length a) sa h) in
    let rb = numbers_only (a ++ x) 0 ys (length b) fits
    (encoded_if_has_slice EncodesNumbers (a ++ x) 0 b ys (length b) sb k) in
    let same = same_sequence _ _ (sym ra ∙ rb) in
    let size : length a ≡ length b = ap (λ (s : Sequence ℕ). s.end) same in
    (sym sa.here ∙ ap (λ (n : ℕ). slice_range (a ++ x) 0 n) size ∙ sb.here, ap (λ (s : Sequence ℕ). s.items) same)
