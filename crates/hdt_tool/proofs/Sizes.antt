-- The last byte of a size, and the digits before it.
use Rattle.std.proofs.Common.{◌≡◌, ◌-◌, ℕ, [], ◌∷◌, ◌++◌, ap, arith, length, take, get_or, refl, subst}
use Rattle.std.proofs.Common.{suc, sym, zero}
use Rattle.std.proofs.lemmas.List.{length-append}
use Rattle.std.specs.Prelude.{◌≢◌, ◌==◌, if◌then◌else◌}
use Rattle.std.proofs.Math.Seq.{get_or-append_seam, take-append_seam}
use Rattle.clap.specs.Words.{Text}
use Rattle.hdt_tool.specs.CommandLine.{last_byte, letter_unit, size_digits, size_unit}

one_less : (front : Text) (c : ℕ) → length (front ++ c ∷ []) - 1 ≡ length front
one_less front c = omega (arith, length-append front (c ∷ []))

pub ended : (text front : Text) (c : ℕ) → text ≡ front ++ c ∷ [] → last_byte text ≡ c
ended text front c is =
    subst (λ (t : Text). last_byte t ≡ c) (sym is)
    (subst (λ n. get_or (front ++ c ∷ []) n 0 ≡ c) (sym (one_less front c)) (get_or-append_seam front c [] 0))

pub before_end : (text front : Text) (c : ℕ) → text ≡ front ++ c ∷ [] → take (length text - 1) text ≡ front
before_end text front c is =
    subst (λ (t : Text). take (length t - 1) t ≡ front) (sym is)
    (subst (λ n. take n (front ++ c ∷ []) ≡ front) (sym (one_less front c)) (take-append_seam front (c ∷ [])))

-- A text is what is before its last byte, and that.
cut : (n : ℕ) (text : Text) (c : ℕ) → length text ≡ suc n → get_or text n 0 ≡ c
    → (front : Text) × (text ≡ front ++ c ∷ [])
cut n [] c e is = absurd (omega (arith, e))
cut zero (x ∷ []) c e is = ([], ap (λ b. b ∷ []) is)
cut zero (x ∷ y ∷ ys) c e is = absurd (omega (arith, e))
cut (suc n) (x ∷ xs) c e is = let (front, whole) = cut n xs c (omega (arith, e)) is in
    (x ∷ front, ap (λ t. x ∷ t) whole)

pub not_ended : (text : Text) (c : ℕ) → c ≢ 0 → ((front : Text) → text ≢ front ++ c ∷ []) → last_byte text ≢ c
not_ended [] c some none is = some (sym is)
not_ended (x ∷ xs) c some none is =
    let one : length (x ∷ xs) - 1 ≡ length xs = omega arith in
    let (front, whole) = cut (length xs) (x ∷ xs) c refl (subst (λ n. get_or (x ∷ xs) n 0 ≡ c) one is) in
    none front whole

plain_letter : (b : ℕ) → b ≢ 75 → b ≢ 77 → b ≢ 71 → letter_unit b ≡ 1
plain_letter b k m g = grind arith

-- A text without a letter at its end is a number of bytes.
pub plain_unit : (text : Text) → ((front : Text) → text ≢ front ++ 75 ∷ []) → ((front : Text) → text ≢ front ++ 77 ∷ [])
    → ((front : Text) → text ≢ front ++ 71 ∷ []) → size_unit text ≡ 1
plain_unit text k m g =
    plain_letter (last_byte text) (not_ended text 75 (λ e. omega (arith, e)) k)
    (not_ended text 77 (λ e. omega (arith, e)) m) (not_ended text 71 (λ e. omega (arith, e)) g)

pub plain_digits : (text : Text) → size_unit text ≡ 1 → text ≡ size_digits text
plain_digits text one = subst (λ n. text ≡ (if n == 1 then text else take (length text - 1) text)) (sym one) refl
