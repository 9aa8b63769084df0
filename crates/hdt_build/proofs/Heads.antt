-- The property text of the header: it has no zero byte, and gives the length of the body.
use Rattle.std.proofs.Common.{◌≡◌, ◌≢◌, ℕ, ◌^◌, ◌<◌, ◌≤◌, true, false, zero, suc, List, [], ◌∷◌, ◌++◌, length, get_or}
use Rattle.std.proofs.Common.{eqb, not, ltb, Option, Some, refl, sym, ap, subst, ◌∙◌, append_assoc, arith}
use Rattle.std.specs.Prelude.{codes, IsSomeAnd}
use Rattle.std.specs.Char.{digit_value}
use Rattle.std.specs.Fmt.{decimal}
use Rattle.std.specs.List.{list_all, slice_split}
use Rattle.std.specs.Str.Parse.{AllDigits}
use Rattle.std.proofs.lemmas.Bool.{eqb-false, ne_eqb, lt-ltb}
use Rattle.std.proofs.lemmas.Fmt.{decimal_is_IsNumeral}
use Rattle.std.proofs.lemmas.List.Elements.{All-append}
use Rattle.std.proofs.lemmas.List.Splits.{slice_split_at}
use Rattle.std.proofs.lemmas.List.Sums.{AllPass-from_list_all}
use Rattle.hdt_wire.specs.Control.{HasNoZero}
use Rattle.hdt_wire.specs.Property.{property_value, is_byte, item_value}
use Rattle.hdt_wire.specs.Laws.Checks.{not-true}
use Rattle.hdt_file.specs.Head.{IsDecimal, StatesLength}
use Rattle.hdt_build.specs.Header.{length_property}

-- a digit differs from every byte that is not a digit
not_digit : (b : ℕ) → 10 ≤ digit_value b → (c : ℕ) → digit_value c < 10 → c ≢ b
not_digit b low c lt = λ e. absurd (omega (arith, ap digit_value e))

no_other : (b : ℕ) → 10 ≤ digit_value b → (ds : List ℕ) → AllDigits 10 ds → (k d : ℕ) → k < length ds
    → get_or ds k d ≢ b
no_other b low [] h k d lt = absurd (omega arith)
no_other b low (c ∷ cs) h zero d lt = not_digit b low c h.0
no_other b low (c ∷ cs) h (suc k) d lt = no_other b low cs h.1 k d (omega arith)

without : (xs : List ℕ) → list_all (λ b. not (eqb b 0)) xs ≡ true → HasNoZero xs
without xs e = λ k d lt. eqb-false _ _ (not-true _ (AllPass-from_list_all (λ b. not (eqb b 0)) xs e k d lt))

-- an item that states a length has no zero byte
pub item_no_zero : (n : ℕ) → n < 2 ^ 64 → HasNoZero (codes "length=" ++ decimal n)
item_no_zero n small =
    All-append (λ (b : ℕ). b ≢ 0) (codes "length=") (decimal n) (without (codes "length=") refl)
    (no_other 0 (omega arith) (decimal n) (decimal_is_IsNumeral n small).0.1)

pub length_no_zero : (n : ℕ) → n < 2 ^ 64 → HasNoZero (length_property n)
unfolding length_property
length_no_zero n small =
    All-append (λ (b : ℕ). b ≢ 0) (codes "length=") (decimal n ++ codes ";") (without (codes "length=") refl)
    (All-append (λ (b : ℕ). b
    ≢ 0) (decimal n) (codes ";") (no_other 0 (omega arith) (decimal n) (decimal_is_IsNumeral n small).0.1)
    (without (codes ";") refl))

-- ---- the length that the text gives

-- an item that states a length has no ';'
pub no_semicolon : (n : ℕ) → n < 2 ^ 64 → (k d : ℕ) → k < length (codes "length=" ++ decimal n)
    → is_byte 59 (get_or (codes "length=" ++ decimal n) k d) ≡ false
no_semicolon n small =
    All-append (λ (b : ℕ). is_byte 59 b ≡ false) (codes "length=") (decimal n)
    (λ k d lt. no_byte (codes "length=") refl k d lt)
    (λ k d lt. ne_eqb _ _ (no_other 59 (omega arith) (decimal n) (decimal_is_IsNumeral n small).0.1 k d lt))
  where
    no_byte : (xs : List ℕ) → list_all (λ b. not (eqb b 59)) xs ≡ true → (k d : ℕ) → k < length xs
        → is_byte 59 (get_or xs k d) ≡ false
    no_byte xs e k d lt = not-true _ (AllPass-from_list_all (λ b. not (eqb b 59)) xs e k d lt)

pieces : (n : ℕ) → n < 2 ^ 64 → slice_split (is_byte 59) (length_property n) ≡ (codes "length=" ++ decimal n) ∷ [] ∷ []
unfolding length_property
pieces n small =
    ap (slice_split (is_byte 59)) (sym (append_assoc (codes "length=") (decimal n) (codes ";")))
    ∙ slice_split_at (is_byte 59) (codes "length=" ++ decimal n) 59 [] (no_semicolon n small) refl

pub value : (ds : List ℕ) → item_value (codes "length") (codes "length=" ++ ds) ≡ Some ds
value ds =
    let there : ltb 6 (length (codes "length=" ++ ds)) ≡ true = lt-ltb _ _ (omega arith) in
    rw there refl

property_is : (n : ℕ) → n < 2 ^ 64 → property_value (length_property n) (codes "length") ≡ Some (decimal n)
unfolding property_value
property_is n small = rw (pieces n small, value (decimal n)) refl

pub states_length : (n : ℕ) → n < 2 ^ 64 → StatesLength (length_property n) n
states_length n small =
    let numeral = decimal_is_IsNumeral n small in
    let counts : IsDecimal (decimal n) n = record { digits = numeral.0; value = numeral.1 } in
    subst (λ (text : Option (List ℕ)). IsSomeAnd text (λ t. IsDecimal t n)) (sym (property_is n small)) counts
