-- The bytes that are written for a section encode it.
use Rattle.std.proofs.Common.{◌≡◌, ℕ, ◌+◌, ◌-◌, ◌<◌, ◌^◌, List, [], ◌∷◌, ◌++◌, length, drop, get_or, refl, sym, ap, ◌∙◌}
use Rattle.std.proofs.Common.{subst, arith}
use Rattle.std.specs.Prelude.{slice_index}
use Rattle.std.proofs.lemmas.List.{get_or-take, get_or-drop}
use Rattle.byteorder.specs.Endian.{little_bytes}
use Rattle.hdt_wire.specs.Crc.{crc8, crc32}
use Rattle.hdt_wire.specs.Checks.{HasSlice}
use Rattle.hdt_wire.specs.Laws.Checks.{HasSlice-front, HasSlice-back}
use Rattle.hdt_wire.specs.VByte.{IsVByteAt, VByte, vbyte}
use Rattle.hdt_wire.specs.Laws.VByte.{vbyte_encodes}
use Rattle.hdt_seq.specs.Laws.Sequence.{encoded_if_has_slice}
use Rattle.hdt_seq.specs.Numbers.{EncodesNumbers, expected_numbers_offsets, numbers_encoding}
use Rattle.hdt_seq.specs.Width.{width_of}
use Rattle.hdt_seq.specs.Laws.NumbersReading.{numbers_encodes}
use Rattle.hdt_front.specs.Section.{IsSectionAt}
use Rattle.hdt_front.specs.SectionWriting.{CanBeWritten, section_preamble, section_encoding}

number_encoded : (v : ℕ) (bytes : List ℕ) (at end : ℕ) → v < 2 ^ 64 → HasSlice bytes at (vbyte v) end
    → IsVByteAt v bytes at end
number_encoded v bytes at end lt s =
    record { spelled = encoded_if_has_slice VByte bytes at (vbyte v) v end s (vbyte_encodes v lt); below = lt }

-- The second byte of a log sequence is its width.
width_is : (starts bytes : List ℕ) (at end : ℕ) → HasSlice bytes at (numbers_encoding starts) end
    → width_of starts ≡ slice_index bytes (at + 1)
unfolding numbers_encoding
width_is starts bytes at end h =
    let text : List ℕ = numbers_encoding starts in
    ap (λ (t : List ℕ). get_or t 1 0) (sym h.here)
    ∙ get_or-take (end - at) (drop at bytes) 1 0 (omega (arith, h.end_is)) ∙ get_or-drop at bytes 1 0

pub section_encoded : (strings : List (List ℕ)) (b : ℕ) (starts packed bytes : List ℕ) (at end : ℕ)
    → CanBeWritten strings b starts packed
    → HasSlice bytes at (section_encoding (length strings) b starts packed) end
    → IsSectionAt (record {
      strings = strings;
      block_size = b;
      offset_bits = width_of starts;
      packed = packed;
      packed_offset = at + length (section_preamble (length strings) (length packed) b) + 1 + length
          (numbers_encoding starts);
      end = end;
    }) bytes at
section_encoded strings b starts packed bytes at end can s =
    let vn = vbyte (length strings) in
    let vm = vbyte (length packed) in
    let head : List ℕ = section_preamble (length strings) (length packed) b in
    let tail : List ℕ = packed ++ little_bytes 4 (crc32 packed) in
    let rest : List ℕ = crc8 head ∷ (numbers_encoding starts ++ tail) in
    let h = HasSlice-front bytes at head rest end s in
    let kind = HasSlice-front bytes at (2 ∷ []) (vn ++ (vm ++ vbyte b)) (at + length head) h in
    let t1 = HasSlice-back bytes at (2 ∷ []) (vn ++ (vm ++ vbyte b)) (at + length head) h in
    let n = HasSlice-front bytes (at + 1) vn (vm ++ vbyte b) (at + length head) t1 in
    let t2 = HasSlice-back bytes (at + 1) vn (vm ++ vbyte b) (at + length head) t1 in
    let m = HasSlice-front bytes (at + 1 + length vn) vm (vbyte b) (at + length head) t2 in
    let block = HasSlice-back bytes (at + 1 + length vn) vm (vbyte b) (at + length head) t2 in
    let c = HasSlice-back bytes at head rest end s in
    let code = HasSlice-front bytes (at + length head) (crc8 head ∷ []) (numbers_encoding starts ++ tail) end c in
    let t3 = HasSlice-back bytes (at + length head) (crc8 head ∷ []) (numbers_encoding starts ++ tail) end c in
    let place : ℕ = at + length head + 1 in
    let numbers = HasSlice-front bytes place (numbers_encoding starts) tail end t3 in
    record {
      size_offset = at + 1 + length vn;
      block_size_offset = at + 1 + length vn + length vm;
      crc_offset = at + length head;
      starts_offset = place;
      starts = record {
        items = starts;
        offsets =
            expected_numbers_offsets place (slice_index bytes (place + 1)) (length starts);
        end =
            place + length (numbers_encoding starts);
      };
      kind = kind;
      count = number_encoded (length strings) bytes (at + 1) (at + 1 + length vn) can.few n;
      size = number_encoded (length packed) bytes (at + 1 + length vn) (at + 1 + length vn + length vm) can.short m;
      block = number_encoded b bytes (at + 1 + length vn + length vm) (at + length head) can.block block;
      code = subst (λ (t : List ℕ). HasSlice bytes (at + length head) (crc8 t ∷ []) place) (sym h.here) code;
      some = can.some;
      block_offsets_at = record {
        spelled = encoded_if_has_slice EncodesNumbers bytes place (numbers_encoding starts) starts _ numbers
            (numbers_encodes starts can.few_starts can.starts_fit);
        offsets = refl;
      };
      started = can.started;
      width = width_is starts bytes place _ numbers;
      packed_begins = refl;
      packed = HasSlice-back bytes place (numbers_encoding starts) tail end t3;
      front_coded = can.front_coded;
      strings = can.strings_are;
    }
