-- The loop that reads a label, one character after another.
use Rattle.std.proofs.Common.{◌≡◌, ℕ, ◌+◌, ◌<◌, true, false, eqb, List, [], ◌∷◌, ◌++◌, length, get_or, drop, Some, refl}
use Rattle.std.proofs.Common.{sym, ap, ◌∙◌, arith, length-append}
use Rattle.std.specs.Prelude.{encode_utf8, encode_utf8_all, IsUtf8}
use Rattle.std.specs.Str.{chars}
use Rattle.std.specs.Char.{len_utf8}
use Rattle.std.proofs.lemmas.List.{at_drop_more}
use Rattle.std.proofs.lemmas.Str.{length-encode, chars_past_char}
use Rattle.std.proofs.lemmas.Bool.{eq-eqb}
use Rattle.hdt_terms.specs.Chars.{is_pn_chars, is_label_start}
use Rattle.hdt_terms.specs.Labels.{label_rest, dot_if_continued, label_bytes}

-- the final end of the label: end so far, with these characters following at index at
abbrev pub taken : ℕ → ℕ → List ℕ → ℕ
taken end at [] = end
taken end at (d ∷ ds) = at + length (encode_utf8_all (d ∷ ds))

-- the bytes of the remaining characters
pub left_more : (cs : List ℕ) (n c : ℕ) → (n < length cs) × (c ≡ get_or cs n c)
    → length (encode_utf8_all (drop n cs)) ≡ len_utf8 c + length (encode_utf8_all (drop (n + 1) cs))
left_more cs n c h =
    at_drop_more (λ ds. length (encode_utf8_all ds)) cs n c h.0
    ∙ rw (← h.1) (length-append (encode_utf8 c) (encode_utf8_all (drop (n + 1) cs))
    ∙ ap (λ k. k + length (encode_utf8_all (drop (n + 1) cs))) (length-encode c))

pub label_more : (cs : List ℕ) (n c : ℕ) → (n < length cs) × (c ≡ get_or cs n c)
    → label_rest (drop n cs) ≡ label_rest (c ∷ drop (n + 1) cs)
label_more cs n c h = at_drop_more label_rest cs n c h.0 ∙ ap (λ d. label_rest (d ∷ drop (n + 1) cs)) (sym h.1)

taken_after : (end at c : ℕ) (ds : List ℕ) → taken end at (c ∷ ds) ≡ taken (at + len_utf8 c) (at + len_utf8 c) ds
taken_after end at c [] = omega (arith, length-append (encode_utf8 c) [], length-encode c)
taken_after end at c (d ∷ ds) = omega (arith, length-append (encode_utf8 c) (encode_utf8_all (d ∷ ds)), length-encode c)

taken_dot : (end at : ℕ) (ds : List ℕ) → taken end at (dot_if_continued ds) ≡ taken end (at + 1) ds
taken_dot end at [] = refl
taken_dot end at (d ∷ ds) = omega (arith, length-append (encode_utf8 46) (encode_utf8_all (d ∷ ds)), length-encode 46)

pub at_char : (end at c : ℕ) (cs : List ℕ) → is_pn_chars c ≡ true
    → taken end at (label_rest (c ∷ cs)) ≡ taken (at + len_utf8 c) (at + len_utf8 c) (label_rest cs)
at_char end at c cs passes = simp passes (taken_after end at c (label_rest cs))

pub at_dot : (end at c : ℕ) (cs : List ℕ) → is_pn_chars c ≡ false → c ≡ 46
    → taken end at (label_rest (c ∷ cs)) ≡ taken end (at + 1) (label_rest cs)
at_dot end at c cs fails is = simp (fails, eq-eqb c 46 is) (taken_dot end at (label_rest cs))

pub at_other : (end at c : ℕ) (cs : List ℕ) → is_pn_chars c ≡ false → eqb c 46 ≡ false
    → taken end at (label_rest (c ∷ cs)) ≡ end
at_other end at c cs fails other = simp (fails, other) refl

pub at_start : (ds : List ℕ) → taken 0 0 ds ≡ length (encode_utf8_all ds)
at_start [] = refl
at_start (d ∷ ds) = omega arith

pub label_starts : (bs rest : List ℕ) (first : ℕ) → IsUtf8 bs → bs ≡ encode_utf8 first ++ rest
    → is_label_start first ≡ true
    → label_bytes (chars bs) ≡ Some (len_utf8 first + length (encode_utf8_all (label_rest (chars rest))))
label_starts bs rest first utf8 whole starts =
    let e : chars bs ≡ first ∷ chars rest = chars_past_char bs rest first utf8 whole in
    let len : length (encode_utf8 first ++ encode_utf8_all (label_rest (chars rest)))
    ≡ len_utf8 first + length (encode_utf8_all (label_rest (chars rest))) = simp (length-append, length-encode) in
    rw (e, starts) (ap (λ (n : ℕ). Some n) len)
