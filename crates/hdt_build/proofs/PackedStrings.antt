-- Strings as bytes: they are read back, and one more at the end.
use Rattle.std.proofs.Common.{◌≡◌, ◌∙◌, ℕ, zero, suc, ◌+◌, ◌-◌, ◌^◌, ◌<◌, ◌≤◌, nat_eq, List, [], ◌∷◌, ◌++◌, length}
use Rattle.std.proofs.Common.{drop, get_or, take, refl, ap, sym, append_assoc, append-nil, arith}
use Rattle.std.proofs.Common.{length-append}
use Rattle.std.specs.List.{All}
use Rattle.std.proofs.Math.Seq.{drop-append_seam, take-append_seam}
use Rattle.std.proofs.lemmas.List.{length-drop, take-append-drop}
use Rattle.std.proofs.lemmas.List.Sums.{common_prefix_len-le}
use Rattle.std.proofs.lemmas.List.Elements.{All-head, All-nil, All-push, All-tail}
use Rattle.hdt_front.specs.Order.{lcp_len}
use Rattle.hdt_wire.specs.VByte.{vbyte}
use Rattle.hdt_build.proofs.CommonPrefixes.{equal_up_to}
use Rattle.hdt_build.proofs.PackedTriples.{some_digits, split_back}
use Rattle.hdt_build.specs.Inside.PackedStrings.{packed_strings, final_string, split_bytes}
use Rattle.hdt_build.specs.Inside.PackedStrings.{unpacked_strings, ArePackedStrings}

-- ---- bytes

bytes_back : (n : ℕ) (front rest : List ℕ) → n ≡ length front → split_bytes n (front ++ rest) ≡ (front, rest)
unfolding split_bytes
bytes_back n front rest e =
    ap (λ (k : ℕ). (take k (front ++ rest), drop k (front ++ rest))) e
    ∙ (λ i. (take-append_seam front rest i, drop-append_seam front rest i))

-- ---- common prefixes

pub lcp_within : (x y : List ℕ) → lcp_len x y ≤ length y
lcp_within x y = (common_prefix_len-le nat_eq x y).1

-- ---- strings

pub length_unpacked_strings : (n : ℕ) (x bytes : List ℕ) → length (unpacked_strings n x bytes) ≡ n
unfolding unpacked_strings
length_unpacked_strings zero x bytes = refl
length_unpacked_strings (suc n) x bytes = ap suc (length_unpacked_strings n _ _)

unpack_one : (n : ℕ) (x y rest : List ℕ) → length y < 2 ^ 64
    → unpacked_strings (suc n) x
    (vbyte (lcp_len x y) ++ (vbyte (length y - lcp_len x y) ++ (drop (lcp_len x y) y ++ rest)))
    ≡ y ∷ unpacked_strings n y rest
unfolding unpacked_strings
unpack_one n x y rest fits =
    let k : ℕ = lcp_len x y in
    let a = split_back k (vbyte (length y - k) ++ (drop k y ++ rest)) (omega (arith, lcp_within x y, fits)) in
    let b = split_back (length y - k) (drop k y ++ rest) (omega (arith, fits)) in
    let c = bytes_back (length y - k) (drop k y) rest (sym (length-drop k y)) in
    let whole : take k x ++ drop k y ≡ y =
    ap (λ (l : List ℕ). l ++ drop k y) (equal_up_to k x y (omega arith)) ∙ take-append-drop k y in
    rw (a, b, c, whole) refl

unpack_all : (x : List ℕ) (ys : List (List ℕ)) → All (λ y. length y < 2 ^ 64) ys
    → unpacked_strings (length ys) x (packed_strings x ys) ≡ ys
unfolding unpacked_strings packed_strings
unpack_all x [] fit = refl
unpack_all x (y ∷ ys) fit =
    unpack_one (length ys) x y (packed_strings y ys) (All-head (λ (z : List ℕ). length z < 2 ^ 64) y ys fit)
    ∙ ap (λ (l : List (List ℕ)). y ∷ l) (unpack_all y ys (All-tail (λ (z : List ℕ). length z < 2 ^ 64) y ys fit))

long_enough : (x : List ℕ) (ys : List (List ℕ)) → All (λ y. length y < 2 ^ 64) ys
    → length ys ≤ length (packed_strings x ys)
unfolding packed_strings
long_enough x [] fit = omega arith
long_enough x (y ∷ ys) fit =
    let k : ℕ = lcp_len x y in
    let fits = All-head (λ (z : List ℕ). length z < 2 ^ 64) y ys fit in
    let rest : List ℕ = packed_strings y ys in
    let tail : List ℕ = drop k y ++ rest in
    omega (
      arith,
      some_digits k (omega (arith, lcp_within x y, fits)),
      length-append (vbyte k) (vbyte (length y - k) ++ tail),
      length-append (vbyte (length y - k)) tail,
      length-append (drop k y) rest,
      long_enough y ys (All-tail (λ (z : List ℕ). length z < 2 ^ 64) y ys fit),
    )

abbrev encoded : List ℕ → List ℕ → List ℕ
encoded x y = vbyte (lcp_len x y) ++ (vbyte (length y - lcp_len x y) ++ drop (lcp_len x y) y)

packed_more : (x : List ℕ) (ys : List (List ℕ)) (y : List ℕ) → packed_strings x (ys ++ y ∷ [])
    ≡ packed_strings x ys ++ encoded (final_string x ys) y
unfolding packed_strings final_string
packed_more x [] y =
    ap (λ (l : List ℕ). vbyte (lcp_len x y) ++ (vbyte (length y - lcp_len x y) ++ l))
    (append-nil (drop (lcp_len x y) y))
packed_more x (z ∷ ys) y =
    let k : ℕ = lcp_len x z in
    let front : List ℕ = drop k z in
    let rest : List ℕ = packed_strings z ys in
    let more : List ℕ = encoded (final_string z ys) y in
    ap (λ (l : List ℕ). vbyte k ++ (vbyte (length z - k) ++ (front ++ l))) (packed_more z ys y)
    ∙ sym (append_assoc (vbyte k) (vbyte (length z - k) ++ (front ++ rest)) more
    ∙ ap (λ (l : List ℕ). vbyte k ++ l) (append_assoc (vbyte (length z - k)) (front ++ rest) more)
    ∙ ap (λ (l : List ℕ). vbyte k ++ (vbyte (length z - k) ++ l)) (append_assoc front rest more))

last_more : (x : List ℕ) (ys : List (List ℕ)) (y : List ℕ) → final_string x (ys ++ y ∷ []) ≡ y
unfolding final_string
last_more x [] y = refl
last_more x (z ∷ ys) y = last_more z ys y

-- ---- one more string

module _ (bytes last : List ℕ) (count : ℕ) (h : ArePackedStrings bytes last (unpacked_strings count [] bytes)) where
  abbrev old : List (List ℕ)
  old = unpacked_strings count [] bytes

  pub few : count ≤ length bytes
  few = omega (arith, length_unpacked_strings count [] bytes, long_enough [] old h.fit, ap length h.bytes_are)

  module _ (new y : List ℕ) (fits : length y < 2 ^ 64) (e : new ≡ bytes ++ encoded last y) where
    packed_is : new ≡ packed_strings [] (old ++ y ∷ [])
    packed_is = e ∙ ap (λ (l : List ℕ). l ++ encoded last y) h.bytes_are
        ∙ ap (λ (x : List ℕ). packed_strings [] old ++ encoded x y) h.last_is ∙ sym (packed_more [] old y)

    all_fit : All (λ z. length z < 2 ^ 64) (old ++ y ∷ [])
    all_fit = All-push (λ (z : List ℕ). length z < 2 ^ 64) old y h.fit fits

    pub pushed_is : unpacked_strings (count + 1) [] new ≡ old ++ y ∷ []
    pushed_is =
        let len : count + 1 ≡ length (old ++ y ∷ []) =
        omega (arith, length-append old (y ∷ []), length_unpacked_strings count [] bytes) in
        ap (λ (n : ℕ). unpacked_strings n [] new) len
        ∙ ap (λ (l : List ℕ). unpacked_strings (length (old ++ y ∷ [])) [] l) packed_is
        ∙ unpack_all [] (old ++ y ∷ []) all_fit

    pub pushed : ArePackedStrings new y (unpacked_strings (count + 1) [] new)
    pushed = rw pushed_is (record {
      bytes_are = packed_is;
      last_is = sym (last_more [] old y);
      fit = all_fit;
    })

pub none_packed : ArePackedStrings [] [] (unpacked_strings 0 [] [])
unfolding final_string packed_strings unpacked_strings
none_packed = record { bytes_are = refl; last_is = refl; fit = All-nil (λ (x : List ℕ). length x < 2 ^ 64) }

-- the last string
pub last_is_last : (x : List ℕ) (xs : List (List ℕ)) → 0 < length xs → final_string x xs ≡ get_or xs (length xs - 1) []
unfolding final_string
last_is_last x [] some = absurd (omega (arith, some))
last_is_last x (y ∷ []) some = refl
last_is_last x (y ∷ (z ∷ zs)) some =
    last_is_last y (z ∷ zs) (omega arith)
    ∙ sym (ap (λ (k : ℕ). get_or (y ∷ (z ∷ zs)) k []) (at (length zs)))
  where
    at : (n : ℕ) → suc (suc n) - 1 ≡ suc (suc n - 1)
    at n = omega arith
