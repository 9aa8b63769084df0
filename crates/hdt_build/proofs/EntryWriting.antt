-- Sequences whose entries are written in pieces.
use Rattle.std.proofs.Common.{◌≡◌, ◌∙◌, ℕ, zero, suc, ◌+◌, ◌*◌, ◌/◌, ◌%◌, ◌^◌, ◌<◌, List, [], ◌∷◌, ◌++◌, length, map}
use Rattle.std.proofs.Common.{Bool, refl, ap, sym, subst, arith, append_assoc, append-nil, length-append}
use Rattle.std.proofs.Math.Nat.{mul-add, mul_assoc}
use Rattle.std.proofs.lemmas.Nat.{pow_pos}
use Rattle.byteorder.specs.Endian.{little_bytes}
use Rattle.hdt_wire.specs.Crc.{crc8, crc32, crc32_register}
use Rattle.hdt_wire.specs.VByte.{vbyte}
use Rattle.hdt_seq.specs.Bits.{bits_encoding}
use Rattle.hdt_seq.specs.Numbers.{numbers_encoding}
use Rattle.hdt_seq.specs.PackedBits.{EachFits, bit_number, bytes_for, packed, packed_bits}
use Rattle.hdt_seq.specs.Sequence.{with_crcs}
use Rattle.hdt_seq.specs.Width.{width_of}
use Rattle.hdt_seq.specs.Laws.Packing.{packed_append}
use Rattle.hdt_build.specs.Inside.Output.{OutputState, Puts}
use Rattle.hdt_build.specs.Inside.EntryWriting.{EntryState, Flushes, IsWritingEntries}
use Rattle.hdt_build.proofs.Outputs.{puts_then}

-- ---- encodings

-- what is written of a log sequence in its least width is its encoding
pub written_numbers : (xs : List ℕ)
    → with_crcs (1 ∷ width_of xs ∷ vbyte (length xs)) (packed (width_of xs) xs) ≡ numbers_encoding xs
unfolding numbers_encoding
written_numbers xs = refl

-- what is written of a bitmap is its encoding
pub written_bits : (bs : List Bool)
    → with_crcs (1 ∷ vbyte (length bs)) (packed 1 (map bit_number bs)) ≡ bits_encoding bs
unfolding bits_encoding packed_bits
written_bits bs = refl

-- ---- entries that fit

none_fits : (width : ℕ) → EachFits width []
none_fits width i = pow_pos width

all_fit : (width : ℕ) (xs ys : List ℕ) → EachFits width xs → EachFits width ys → EachFits width (xs ++ ys)
all_fit width [] ys p q i = q i
all_fit width (x ∷ xs) ys p q zero = p 0
all_fit width (x ∷ xs) ys p q (suc i) = all_fit width xs ys (λ k. p (suc k)) q i

one_fits : (width x : ℕ) → x < 2 ^ width → EachFits width (x ∷ [])
one_fits width x lt zero = lt
one_fits width x lt (suc i) = pow_pos width

-- ---- whole bytes

packed_nothing : (width : ℕ) → packed width [] ≡ []
unfolding packed
packed_nothing width =
    let none : width * 0 ≡ 0 = omega arith in
    ap (λ (n : ℕ). little_bytes (bytes_for n) 0) none

whole_piece : (width n : ℕ) → n % 4096 ≡ 0 → width * n % 8 ≡ 0
whole_piece width n h =
    let eights : n ≡ n / 4096 * 512 * 8 = omega arith in
    let split : width * n ≡ width * (n / 4096 * 512) * 8 =
    ap (λ (k : ℕ). width * k) eights ∙ sym (mul_assoc width (n / 4096 * 512) 8) in
    omega (arith, split)

whole_sum : (width a b : ℕ) → width * a % 8 ≡ 0 → width * b % 8 ≡ 0 → width * (a + b) % 8 ≡ 0
whole_sum width a b p q = omega (arith, mul-add width a b)

-- ---- one step after another

-- the head was written
pub begun_entries : (before out : OutputState) (head pending : List ℕ) (width crc : ℕ)
    → Puts before out (head ++ crc8 head ∷ []) → crc ≡ crc32_register [] → pending ≡ []
    → IsWritingEntries before head width [] (record { out = out; width = width; crc = crc; pending = pending })
begun_entries before out head pending width crc puts register none =
    let empty : packed width [] ≡ [] = packed_nothing width in
    let zero_bits : width * 0 ≡ 0 = omega arith in
    record {
      done = [];
      width_is = refl;
      fits = none_fits width;
      whole = omega (arith, zero_bits);
      entries_are = none;
      puts = subst (λ (l : List ℕ). Puts before out (head ++ crc8 head ∷ l)) (sym empty) puts;
      crc_is = register ∙ ap crc32_register (sym empty);
    }

module _ (before : OutputState) (head xs : List ℕ) (width : ℕ) (old new : EntryState)
    (h : IsWritingEntries before head width xs old) (f : Flushes old new) where
  abbrev whole_bytes : List ℕ
  whole_bytes = packed width h.done

  abbrev rest_bytes : List ℕ
  rest_bytes = packed old.width old.pending

  together : whole_bytes ++ rest_bytes ≡ packed width (h.done ++ old.pending)
  together =
      ap (λ (w : ℕ). whole_bytes ++ packed w old.pending) h.width_is
      ∙ sym (packed_append width h.done old.pending h.fits h.whole)

  register : new.crc ≡ crc32_register (packed width (h.done ++ old.pending))
  register = f.crc_is whole_bytes h.crc_is ∙ ap crc32_register together

  all_put : Puts before new.out (head ++ crc8 head ∷ packed width (h.done ++ old.pending))
  all_put =
      let joined : (head ++ crc8 head ∷ whole_bytes) ++ rest_bytes
      ≡ head ++ crc8 head ∷ packed width (h.done ++ old.pending) =
      append_assoc head (crc8 head ∷ whole_bytes) rest_bytes
      ∙ ap (λ (l : List ℕ). head ++ crc8 head ∷ l) together in
      subst (Puts before new.out) joined
      (puts_then before old.out new.out (head ++ crc8 head ∷ whole_bytes) rest_bytes h.puts f.puts)

  -- entries that take whole bytes were written
  flushed_entries : EachFits width old.pending → width * length old.pending % 8 ≡ 0
      → IsWritingEntries before head width xs new
  flushed_entries fits whole = record {
    done = h.done ++ old.pending;
    width_is = f.width_is ∙ h.width_is;
    fits = all_fit width h.done old.pending h.fits fits;
    whole = rw (length-append h.done old.pending) (whole_sum width (length h.done) (length old.pending) h.whole whole);
    entries_are = ap (λ (l : List ℕ). (h.done ++ old.pending) ++ l) f.none ∙ append-nil (h.done ++ old.pending)
        ∙ h.entries_are;
    puts = all_put;
    crc_is = register;
  }

  -- the last entries were written, and the CRC
  pub finished_entries : (made : OutputState) (code : ℕ)
      → ((bytes : List ℕ) → new.crc ≡ crc32_register bytes → code ≡ crc32 bytes)
      → Puts new.out made (little_bytes 4 code) → Puts before made (with_crcs head (packed width xs))
  finished_entries made code value put =
      let all : List ℕ = packed width (h.done ++ old.pending) in
      let code_is : code ≡ crc32 all = value all register in
      let joined : (head ++ crc8 head ∷ all) ++ little_bytes 4 code ≡ with_crcs head all =
      append_assoc head (crc8 head ∷ all) (little_bytes 4 code)
      ∙ ap (λ (n : ℕ). head ++ crc8 head ∷ (all ++ little_bytes 4 n)) code_is in
      subst (Puts before made) (joined ∙ ap (λ (l : List ℕ). with_crcs head (packed width l)) h.entries_are)
      (puts_then before new.out made (head ++ crc8 head ∷ all) (little_bytes 4 code) all_put put)

-- one entry more is pending
pub pushed_entry : (before out : OutputState) (head xs pending pushed : List ℕ) (width w crc x y : ℕ)
    → IsWritingEntries before head width xs (record { out = out; width = w; crc = crc; pending = pending })
    → y ≡ x → pushed ≡ pending ++ y ∷ []
    → IsWritingEntries before head width (xs ++ x ∷ [])
    (record { out = out; width = w; crc = crc; pending = pushed })
pushed_entry before out head xs pending pushed width w crc x y h is e = record {
  done = h.done;
  width_is = h.width_is;
  fits = h.fits;
  whole = h.whole;
  entries_are =
      ap (λ (l : List ℕ). h.done ++ l) (e ∙ ap (λ (n : ℕ). pending ++ n ∷ []) is)
      ∙ sym (append_assoc h.done pending (x ∷ [])) ∙ ap (λ (l : List ℕ). l ++ x ∷ []) h.entries_are;
  puts = h.puts;
  crc_is = h.crc_is;
}

-- one entry more, and then all pending entries were written
pub pushed_piece : (before out : OutputState) (head xs pending pushed : List ℕ) (width w crc x y : ℕ) (new : EntryState)
    → IsWritingEntries before head width xs (record { out = out; width = w; crc = crc; pending = pending })
    → EachFits w pending → y < 2 ^ w → y ≡ x → pushed ≡ pending ++ y ∷ [] → length pushed % 4096 ≡ 0
    → Flushes (record { out = out; width = w; crc = crc; pending = pushed }) new
    → IsWritingEntries before head width (xs ++ x ∷ []) new
pushed_piece before out head xs pending pushed width w crc x y new h fits lt is e whole f =
    let full : EntryState = record { out = out; width = w; crc = crc; pending = pushed } in
    let all : EachFits w pushed =
    subst (EachFits w) (sym e) (all_fit w pending (y ∷ []) fits (one_fits w y lt)) in
    flushed_entries before head (xs ++ x ∷ []) width full new
    (pushed_entry before out head xs pending pushed width w crc x y h is e) f
    (subst (λ (n : ℕ). EachFits n pushed) h.width_is all) (whole_piece width (length pushed) whole)
