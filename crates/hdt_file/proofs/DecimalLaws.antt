-- `decimal_number` returns exactly the number that a text encodes, and so does `parse`, without a plus sign.
use Rattle.std.proofs.Common.{◌≡◌, ◌≢◌, ℕ, ◌^◌, ◌<◌, Bool, true, false, ◌&&◌, List, [], ◌∷◌, length, get_or, ltb}
use Rattle.std.proofs.Common.{Option, Some, None, Result, Ok, Err, refl, sym, ◌∙◌, subst, arith}
use Rattle.std.specs.Prelude.{if◌then◌else◌}
use Rattle.std.specs.List.{list_all}
use Rattle.std.specs.Char.{digit_value, is_digit}
use Rattle.std.specs.Prelude.{IsUtf8}
use Rattle.std.specs.Result.{result_ok}
use Rattle.std.specs.Str.Parse.{AllDigits, IsNumeral, ParsesUnsigned, digits_value, without_leading_plus}
use Rattle.std.proofs.lemmas.Bool.{and_parts, ltb-true, lt-ltb, ne_eqb}
use Rattle.std.proofs.lemmas.Fmt.{IsAscii-from_digits}
use Rattle.std.proofs.lemmas.Str.{IsUtf8-from_ascii}
use Rattle.hdt_file.specs.Head.{IsDecimal, is_numeral, decimal_number}

all_digits : (text : List ℕ) → list_all (λ c. is_digit c 10) text ≡ true → AllDigits 10 text
all_digits [] e = tt
all_digits (c ∷ cs) e = let p = and_parts _ _ e in (ltb-true _ _ p.0, all_digits cs p.1)

digits_all : (text : List ℕ) → AllDigits 10 text → list_all (λ c. is_digit c 10) text ≡ true
digits_all [] h = refl
digits_all (c ∷ cs) h = rw (lt-ltb _ _ h.0, digits_all cs h.1) refl

read : (text : List ℕ) (n v : ℕ) (ok small : Bool) → (ok ≡ true → AllDigits 10 text × (0 < length text))
    → n ≡ digits_value 10 text → (small ≡ true → n < 2 ^ 64)
    → (if ok && small then Some n else None) ≡ Some v → IsDecimal text v × (v < 2 ^ 64)
read text n v true true digits value below e =
    let same : n ≡ v = cc in
    let d = digits refl in
    (record { digits = (d.1, d.0); value = sym value ∙ same }, rw same at (below refl))
read text n v true false digits value below e = absurd cc
read text n v false small digits value below e = absurd cc

-- the number returned is the one that the text encodes
pub decimal_found : (text : List ℕ) (v : ℕ) → decimal_number text ≡ Some v → IsDecimal text v × (v < 2 ^ 64)
unfolding decimal_number
decimal_found text v e =
    read text (digits_value 10 text) v (is_numeral text) (ltb (digits_value 10 text) (2 ^ 64))
    (λ is. let p = and_parts _ _ is in (all_digits text p.1, ltb-true _ _ p.0)) refl (ltb-true _ _) e

-- the number that a text encodes is returned
pub decimal_only : (text : List ℕ) (v : ℕ) → v < 2 ^ 64 → IsDecimal text v → decimal_number text ≡ Some v
unfolding decimal_number
decimal_only text v lt h =
    let some : ltb 0 (length text) ≡ true = lt-ltb _ _ h.digits.0 in
    let small : ltb (digits_value 10 text) (2 ^ 64) ≡ true = lt-ltb _ _ (rw h.value lt) in
    rw (some, digits_all text h.digits.1, small, h.value) refl

-- ---- a text that is parsed

-- a text without a decimal number below 2 ^ 64
pub no_number : (text : List ℕ) → ((v : ℕ) → v < 2 ^ 64 → IsDecimal text v → ⊥) → None ≡ decimal_number text
no_number text none = by (decimal_number text) refl
  where
    by : (o : Option ℕ) → decimal_number text ≡ o → None ≡ decimal_number text
    by None e = sym e
    by (Some v) e = let h = decimal_found text v e in absurd (none v h.1 h.0)

pub with_plus : (text : List ℕ) (d : ℕ) → get_or text 0 d ≡ 43 → 0 < length text → None ≡ decimal_number text
with_plus [] d plus some = absurd (omega (arith, some))
with_plus (c ∷ cs) d plus some =
    no_number (c ∷ cs) (λ v small h. let low : digit_value 43 < 10 =
    subst (λ (n : ℕ). digit_value n < 10) plus h.digits.1.0 in omega (arith, low))

pub not_utf8 : (text : List ℕ) → (IsUtf8 text → ⊥) → None ≡ decimal_number text
not_utf8 text none = no_number text (λ v small h. none (IsUtf8-from_ascii text (IsAscii-from_digits text h.digits.1)))

without_plus : (text : List ℕ) (d : ℕ) → get_or text 0 d ≢ 43 → 0 < length text → without_leading_plus text ≡ text
without_plus [] d none some = refl
without_plus (c ∷ cs) d none some = rw (ne_eqb c 43 none) refl

-- `parse` reads the number, if the text has no plus sign
pub parsed : {E : Type 0} (text : List ℕ) (d : ℕ) (r : Result ℕ E) → get_or text 0 d ≢ 43 → 0 < length text
    → ParsesUnsigned 64 10 text r → result_ok r ≡ decimal_number text
parsed text d (Ok v) none some h =
    let k : IsNumeral 10 text × (digits_value 10 text < 2 ^ 64) = rw (without_plus text d none some) at h.0 in
    let value : v ≡ digits_value 10 text = rw (without_plus text d none some) at h.1 in
    sym (decimal_only text v (rw value k.1) (record { digits = k.0; value = sym value }))
parsed text d (Err e) none some h =
    no_number text (λ v small n. h (rw (without_plus text d none some) (n.digits, rw n.value small)))
