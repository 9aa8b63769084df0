-- Numbers as bytes: they are read back, and one more at the end; writing them as a sequence.
use Rattle.std.proofs.Common.{◌≡◌, ◌∙◌, ℕ, zero, suc, ◌+◌, ◌^◌, ◌<◌, ◌≤◌, List, [], ◌∷◌, ◌++◌, fold, length, max}
use Rattle.std.proofs.Common.{refl, ap}
use Rattle.std.proofs.Common.{sym, subst, arith, append_assoc, append-nil, length-append}
use Rattle.std.specs.List.{All}
use Rattle.std.proofs.lemmas.List.{get_or-append-add}
use Rattle.std.proofs.lemmas.List.Elements.{All-head, All-push, All-tail}
use Rattle.hdt_wire.specs.VByte.{vbyte}
use Rattle.hdt_seq.specs.Numbers.{numbers_encoding}
use Rattle.hdt_seq.specs.PackedBits.{EachFits, packed}
use Rattle.hdt_seq.specs.Sequence.{with_crcs}
use Rattle.hdt_seq.specs.SequenceWriting.{IsWriting}
use Rattle.hdt_seq.specs.Width.{digits, greatest, width_of}
use Rattle.hdt_seq.specs.declared.sequence_writer.SequenceWriter.{SequenceWriter}
use Rattle.hdt_build.specs.Inside.PackedNumbers.{ArePackedNumbers, HaveWritten, packed_numbers, unpacked_numbers}
use Rattle.hdt_build.proofs.PackedTriples.{some_digits, split_back}

abbrev IsWord : ℕ → Type 0
IsWord x = x < 2 ^ 64

pub length_unpacked_numbers : (n : ℕ) (bytes : List ℕ) → length (unpacked_numbers n bytes) ≡ n
unfolding unpacked_numbers
length_unpacked_numbers zero bytes = refl
length_unpacked_numbers (suc n) bytes = ap suc (length_unpacked_numbers n _)

unpack_one : (n x : ℕ) (rest : List ℕ) → x < 2 ^ 64
    → unpacked_numbers (suc n) (vbyte x ++ rest) ≡ x ∷ unpacked_numbers n rest
unfolding unpacked_numbers
unpack_one n x rest lt = rw (split_back x rest lt) refl

unpack_all : (xs : List ℕ) → All IsWord xs → unpacked_numbers (length xs) (packed_numbers xs) ≡ xs
unfolding unpacked_numbers packed_numbers
unpack_all [] fit = refl
unpack_all (x ∷ xs) fit =
    unpack_one (length xs) x (packed_numbers xs) (All-head IsWord x xs fit)
    ∙ ap (λ (l : List ℕ). x ∷ l) (unpack_all xs (All-tail IsWord x xs fit))

long_enough : (xs : List ℕ) → All IsWord xs → length xs ≤ length (packed_numbers xs)
unfolding packed_numbers
long_enough [] fit = omega arith
long_enough (x ∷ xs) fit =
    omega (
      arith,
      some_digits x (All-head IsWord x xs fit),
      length-append (vbyte x) (packed_numbers xs),
      long_enough xs (All-tail IsWord x xs fit),
    )

packed_more : (xs : List ℕ) (x : ℕ) → packed_numbers (xs ++ x ∷ []) ≡ packed_numbers xs ++ vbyte x
unfolding packed_numbers
packed_more [] x = append-nil (vbyte x)
packed_more (y ∷ ys) x =
    ap (λ (l : List ℕ). vbyte y ++ l) (packed_more ys x) ∙ sym (append_assoc (vbyte y) (packed_numbers ys) (vbyte x))

greatest_more : (k : ℕ) (xs : List ℕ) (x : ℕ) → fold max k (xs ++ x ∷ []) ≡ max (fold max k xs) x
greatest_more k [] x = refl
greatest_more k (y ∷ ys) x = greatest_more (max k y) ys x

-- the greatest number decides the width
pub width_of_greatest : (xs : List ℕ) (most : ℕ) → most ≡ greatest xs → width_of (most ∷ []) ≡ width_of xs
width_of_greatest xs most is =
    let one : greatest (most ∷ []) ≡ greatest xs = omega (arith, is) in
    ap (λ (n : ℕ). max 1 (digits n)) one

-- ---- one more number

module _ (bytes : List ℕ) (most count : ℕ) (h : ArePackedNumbers bytes most (unpacked_numbers count bytes)) where
  pub few_numbers : count ≤ length bytes
  few_numbers = omega (
    arith,
    length_unpacked_numbers count bytes,
    long_enough (unpacked_numbers count bytes) h.fit,
    ap length h.bytes_are,
  )

  module _ (new : List ℕ) (x : ℕ) (fits : x < 2 ^ 64) (e : new ≡ bytes ++ vbyte x) where
    abbrev old : List ℕ
    old = unpacked_numbers count bytes

    packed_is : new ≡ packed_numbers (old ++ x ∷ [])
    packed_is = e ∙ ap (λ (l : List ℕ). l ++ vbyte x) h.bytes_are ∙ sym (packed_more old x)

    fit : All IsWord (old ++ x ∷ [])
    fit = All-push IsWord old x h.fit fits

    pub pushed_number_is : unpacked_numbers (count + 1) new ≡ unpacked_numbers count bytes ++ x ∷ []
    pushed_number_is =
        let len : count + 1 ≡ length (old ++ x ∷ []) =
        omega (arith, length-append old (x ∷ []), length_unpacked_numbers count bytes) in
        ap (λ (n : ℕ). unpacked_numbers n new) len
        ∙ ap (λ (l : List ℕ). unpacked_numbers (length (old ++ x ∷ [])) l) packed_is
        ∙ unpack_all (old ++ x ∷ []) fit

    pub pushed_number : ArePackedNumbers new (max most x) (unpacked_numbers (count + 1) new)
    pushed_number = rw pushed_number_is (record {
      bytes_are = packed_is;
      most_is = ap (λ (n : ℕ). max n x) h.most_is ∙ sym (greatest_more 0 old x);
      fit = fit;
    })

-- ---- one entry after another

module _ (before head : List ℕ) (width : ℕ) (all : List ℕ) (fits : EachFits width all) where
  entry_fits : (done rest : List ℕ) (x : ℕ) → done ++ x ∷ rest ≡ all → x < 2 ^ width
  entry_fits done rest x is =
      subst (λ (y : ℕ). y < 2 ^ width) (get_or-append-add done (x ∷ rest) 0 0)
      (subst (EachFits width) (sym is) fits (length done + 0))

  pub written_more : (rest : List ℕ) (x : ℕ) (w v : SequenceWriter) (out new : List ℕ)
      → ((before head xs : List ℕ) (width : ℕ) → x < 2 ^ width → IsWriting before head width xs w out
      → IsWriting before head width (xs ++ x ∷ []) v new)
      → HaveWritten before head width all (x ∷ rest) w out → HaveWritten before head width all rest v new
  written_more rest x w v out new more h = record {
    done = h.done ++ x ∷ [];
    writing = more before head h.done width (entry_fits h.done rest x h.all_are) h.writing;
    all_are = append_assoc h.done (x ∷ []) rest ∙ h.all_are;
  }

pub all_written : (before head : List ℕ) (width : ℕ) (all : List ℕ) (w : SequenceWriter) (out : List ℕ)
    → HaveWritten before head width all [] w out → IsWriting before head width all w out
all_written before head width all w out h =
    subst (λ (xs : List ℕ). IsWriting before head width xs w out) (sym (append-nil h.done) ∙ h.all_are) h.writing

pub numbers_whole : (xs : List ℕ) (before new : List ℕ)
    → new ≡ before ++ with_crcs (1 ∷ width_of xs ∷ vbyte (length xs)) (packed (width_of xs) xs)
    → new ≡ before ++ numbers_encoding xs
unfolding numbers_encoding
numbers_whole xs before new e = e
