-- The checks of bytes, CRCs and sequences are exact.
use Rattle.std.proofs.Common.{true, ◌≡◌, ℕ, ◌*◌, List, [], ◌∷◌, ◌++◌, length, eqb, Ok, refl, sym, ap, subst, ◌∙◌, arith}
use Rattle.std.specs.Prelude.{slice_range}
use Rattle.std.proofs.lemmas.Bool.{eqb-true}
use Rattle.std.proofs.lemmas.Bool.Decides.{Decides-eqb}
use Rattle.byteorder.specs.Endian.{little_bytes}
use Rattle.hdt_wire.specs.declared.fault.Reason.TheVariants.{Check8}
use Rattle.hdt_wire.specs.Crc.{crc8, crc32}
use Rattle.hdt_wire.specs.Checks.{IsBytes, HasSlice}
use Rattle.hdt_wire.specs.Laws.Checks.{demand_ok, bind_ok}
use Rattle.hdt_seq.specs.PackedBits.{bytes_for}
use Rattle.hdt_seq.specs.Sequence.{SequenceShape, byte_at, crc8_at, packed_at}
use Rattle.hdt_seq.specs.Laws.Sequence.{byte_found, byte_only, packed_found, packed_only, slice_is_bytes}
use Rattle.hdt_wire.specs.Laws.Checks.{HasSlice-front}
use Rattle.hdt_seq.specs.Numbers.{numbers_at}
use Rattle.hdt_seq.specs.Laws.NumbersReading.{numbers_found, numbers_only}
use Rattle.hdt_seq.specs.Bits.{bits_at}
use Rattle.hdt_seq.specs.Laws.BitsReading.{bits_found, bits_only}
use Rattle.hdt_wire.specs.Exact.{Exactly}
use Rattle.hdt_wire.specs.Laws.Exact.{holds_of_ok}
use Rattle.hdt_seq.specs.ExactSequences.{IsLogSequenceAt, IsBitmapAt}

pub byte_exact : (bytes : List ℕ) (at : ℕ) → Exactly (byte_at bytes at) (λ x. HasSlice bytes at (x.0 ∷ []) x.1)
byte_exact bytes at = record { found = byte_found bytes at; only = λ x h. byte_only bytes at x.0 x.1 h }

-- the CRC-8 of the bytes from a start up to an offset
pub crc8_exact : (bytes : List ℕ) (start at : ℕ)
    → Exactly (crc8_at bytes start at) (λ end. HasSlice bytes at (crc8 (slice_range bytes start at) ∷ []) end)
unfolding crc8_at
crc8_exact bytes start at = record {
  found = λ end e.
      bind_ok (byte_at bytes at) _ end e (λ code e1 e.
      demand_ok (eqb code.0 (crc8 (slice_range bytes start at))) at Check8 _ end e (λ h e.
      holds_of_ok (λ (y : ℕ). HasSlice bytes at (crc8 (slice_range bytes start at) ∷ []) y) _ _ e
      (subst (λ (b : ℕ). HasSlice bytes at (b ∷ []) code.1) (eqb-true _ _ h) (byte_found bytes at code e1))));
  only = λ end h.
      let same : eqb (crc8 (slice_range bytes start at)) (crc8 (slice_range bytes start at)) ≡ true =
      (Decides-eqb _ _).1 refl in
      rw (byte_only bytes at (crc8 (slice_range bytes start at)) end h, same) refl;
}

-- a given number of bytes, and their CRC-32C
pub packed_exact : (size : ℕ) (bytes : List ℕ) (at : ℕ) → IsBytes bytes
    → Exactly (packed_at (8 * size) bytes at) (λ x. HasSlice bytes at (x.0 ++ little_bytes 4 (crc32 x.0)) x.1
    × (length x.0 ≡ size))
packed_exact size bytes at fits =
    let whole : bytes_for (8 * size) ≡ size = omega arith in
    record {
      found = λ x e. let f = packed_found (8 * size) bytes at x fits e in (f.0, f.1 ∙ whole);
      only = λ x h. packed_only (8 * size) bytes at x.0 x.1
          (slice_is_bytes bytes at x.0 _ fits (HasSlice-front bytes at x.0 _ x.1 h.0)) (h.1 ∙ sym whole) h.0;
    }

pub numbers_exact : (bytes : List ℕ) (at : ℕ) → IsBytes bytes
    → Exactly (numbers_at bytes at) (λ s. IsLogSequenceAt s bytes at)
numbers_exact bytes at fits = record {
  found = λ s e. let f = numbers_found bytes at s fits e in record { spelled = f.spelled; offsets = f.has_offsets };
  only = λ s h.
      let reads = numbers_only bytes at s.items s.end fits h.spelled in
      let has_offsets = (numbers_found bytes at _ fits reads).has_offsets in
      reads ∙ ap (λ (p : SequenceShape). Ok (record { items = s.items; offsets = p; end = s.end })) (has_offsets
      ∙ sym h.offsets);
}

pub bits_exact : (bytes : List ℕ) (at : ℕ) → IsBytes bytes → Exactly (bits_at bytes at) (λ s. IsBitmapAt s bytes at)
bits_exact bytes at fits = record {
  found = λ s e. let f = bits_found bytes at s fits e in record { spelled = f.spelled; offsets = f.has_offsets };
  only = λ s h.
      bits_only bytes at s.items s.end fits h.spelled
      ∙ ap (λ (p : SequenceShape). Ok (record { items = s.items; offsets = p; end = s.end })) (sym h.offsets);
}
