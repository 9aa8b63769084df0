-- Triples as bytes: they are read back, and one more at the end.
use Rattle.std.proofs.Common.{◌≡◌, ◌∙◌, ℕ, zero, suc, ◌+◌, ◌%◌, ◌^◌, ◌<◌, ◌≤◌, List}
use Rattle.std.proofs.Common.{[], ◌∷◌, ◌++◌, length, refl, ap}
use Rattle.std.proofs.Common.{sym, append_assoc, append-nil, arith, length-append, zero-add, Ok}
use Rattle.std.specs.List.{All}
use Rattle.std.proofs.Math.Seq.{drop-append_seam}
use Rattle.std.proofs.lemmas.List.Elements.{All-head, All-push, All-tail}
use Rattle.hdt_wire.specs.VByte.{vbyte, vbyte_at}
use Rattle.hdt_wire.specs.Laws.VByte.{vbyte_again, vbyte_bounded}
use Rattle.hdt_triples.specs.TripleSequences.{Triple}
use Rattle.hdt_build.specs.Inside.PackedTriples.{step_to, packed_after, last_subject, number_and_rest, split_number}
use Rattle.hdt_build.specs.Inside.PackedTriples.{unpacked, FitsWords, IsPacked}

-- ---- numbers

step_back : (x y : ℕ) → x < 2 ^ 64 → y < 2 ^ 64 → (x + step_to x y) % 2 ^ 64 ≡ y
step_back x y a b = omega (arith, a, b)

step_fits : (x y : ℕ) → step_to x y < 2 ^ 64
step_fits x y = omega arith

number_again : (v : ℕ) (rest : List ℕ) → v < 2 ^ 64 → vbyte_at (vbyte v ++ rest) 0 ≡ Ok (v, length (vbyte v))
number_again v rest lt = vbyte_again [] rest v lt ∙ ap (λ (n : ℕ). Ok (v, n)) (zero-add (length (vbyte v)))

pub some_digits : (v : ℕ) → v < 2 ^ 64 → 0 < length (vbyte v)
some_digits v lt = (vbyte_bounded _ 0 _ (number_again v [] lt)).some

pub split_back : (v : ℕ) (rest : List ℕ) → v < 2 ^ 64 → split_number (vbyte v ++ rest) ≡ (v, rest)
unfolding split_number
split_back v rest lt =
    ap (number_and_rest (vbyte v ++ rest)) (number_again v rest lt)
    ∙ ap (λ (l : List ℕ). (v, l)) (drop-append_seam (vbyte v) rest)

-- ---- triples

pub length-unpacked : (n x : ℕ) (bytes : List ℕ) → length (unpacked n x bytes) ≡ n
unfolding unpacked
length-unpacked zero x bytes = refl
length-unpacked (suc n) x bytes = ap suc (length-unpacked n _ _)

unpack_one : (n x : ℕ) (t : Triple) (rest : List ℕ) → x < 2 ^ 64 → FitsWords t
    → unpacked (suc n) x (vbyte (step_to x t.0) ++ (vbyte t.1 ++ (vbyte t.2 ++ rest))) ≡ t ∷ unpacked n t.0 rest
unfolding unpacked
unpack_one n x t rest lt fits =
    let a = split_back (step_to x t.0) (vbyte t.1 ++ (vbyte t.2 ++ rest)) (step_fits x t.0) in
    let b = split_back t.1 (vbyte t.2 ++ rest) fits.1 in
    let c = split_back t.2 rest fits.2 in
    rw (a, b, c, step_back x t.0 lt fits.0) refl

unpack_all : (x : ℕ) (ts : List Triple) → x < 2 ^ 64 → All FitsWords ts
    → unpacked (length ts) x (packed_after x ts) ≡ ts
unfolding unpacked packed_after
unpack_all x [] lt fit = refl
unpack_all x (t ∷ ts) lt fit =
    let fits : FitsWords t = All-head FitsWords t ts fit in
    unpack_one (length ts) x t (packed_after t.0 ts) lt fits
    ∙ ap (λ (l : List Triple). t ∷ l) (unpack_all t.0 ts fits.0 (All-tail FitsWords t ts fit))

long_enough : (x : ℕ) (ts : List Triple) → All FitsWords ts → length ts ≤ length (packed_after x ts)
unfolding packed_after
long_enough x [] fit = omega arith
long_enough x (t ∷ ts) fit =
    let a : List ℕ = vbyte (step_to x t.0) in
    let rest : List ℕ = packed_after t.0 ts in
    omega (
      arith,
      some_digits (step_to x t.0) (step_fits x t.0),
      length-append a (vbyte t.1 ++ (vbyte t.2 ++ rest)),
      length-append (vbyte t.1) (vbyte t.2 ++ rest),
      length-append (vbyte t.2) rest,
      long_enough t.0 ts (All-tail FitsWords t ts fit),
    )

packed_more : (x : ℕ) (ts : List Triple) (t : Triple) → packed_after x (ts ++ t ∷ [])
    ≡ packed_after x ts ++ (vbyte (step_to (last_subject x ts) t.0) ++ (vbyte t.1 ++ vbyte t.2))
unfolding packed_after last_subject
packed_more x [] t =
    ap (λ (l : List ℕ). vbyte (step_to x t.0) ++ (vbyte t.1 ++ l)) (append-nil (vbyte t.2))
packed_more x (u ∷ ts) t =
    let a : List ℕ = vbyte (step_to x u.0) in
    let rest : List ℕ = packed_after u.0 ts in
    let more : List ℕ = vbyte (step_to (last_subject u.0 ts) t.0) ++ (vbyte t.1 ++ vbyte t.2) in
    ap (λ (l : List ℕ). a ++ (vbyte u.1 ++ (vbyte u.2 ++ l))) (packed_more u.0 ts t)
    ∙ sym (append_assoc a (vbyte u.1 ++ (vbyte u.2 ++ rest)) more
    ∙ ap (λ (l : List ℕ). a ++ l) (append_assoc (vbyte u.1) (vbyte u.2 ++ rest) more)
    ∙ ap (λ (l : List ℕ). a ++ (vbyte u.1 ++ l)) (append_assoc (vbyte u.2) rest more))

last_more : (x : ℕ) (ts : List Triple) (t : Triple) → last_subject x (ts ++ t ∷ []) ≡ t.0
unfolding last_subject
last_more x [] t = refl
last_more x (u ∷ ts) t = last_more u.0 ts t

-- ---- one more triple

module _ (bytes : List ℕ) (subject count : ℕ) (h : IsPacked bytes subject (unpacked count 0 bytes)) where
  pub few : count ≤ length bytes
  few = omega (
    arith,
    length-unpacked count 0 bytes,
    long_enough 0 (unpacked count 0 bytes) h.fit,
    ap length h.bytes_are,
  )

  module _ (new : List ℕ) (t : Triple) (fits : FitsWords t)
      (e : new ≡ bytes ++ (vbyte (step_to subject t.0) ++ (vbyte t.1 ++ vbyte t.2))) where
    abbrev old : List Triple
    old = unpacked count 0 bytes

    packed_is : new ≡ packed_after 0 (old ++ t ∷ [])
    packed_is = e ∙ ap (λ (l : List ℕ). l ++ (vbyte (step_to subject t.0) ++ (vbyte t.1 ++ vbyte t.2))) h.bytes_are
        ∙ ap (λ (x : ℕ). packed_after 0 old ++ (vbyte (step_to x t.0) ++ (vbyte t.1 ++ vbyte t.2))) h.subject_is
        ∙ sym (packed_more 0 old t)

    fit : All FitsWords (old ++ t ∷ [])
    fit = All-push FitsWords old t h.fit fits

    pub pushed_is : unpacked (count + 1) 0 new ≡ unpacked count 0 bytes ++ t ∷ []
    pushed_is =
        let len : count + 1 ≡ length (old ++ t ∷ []) =
        omega (arith, length-append old (t ∷ []), length-unpacked count 0 bytes) in
        ap (λ (n : ℕ). unpacked n 0 new) len
        ∙ ap (λ (l : List ℕ). unpacked (length (old ++ t ∷ [])) 0 l) packed_is
        ∙ unpack_all 0 (old ++ t ∷ []) (omega arith) fit

    pub pushed : IsPacked new t.0 (unpacked (count + 1) 0 new)
    pushed = rw pushed_is (record {
      bytes_are = packed_is;
      subject_is = sym (last_more 0 old t);
      fit = fit;
    })
