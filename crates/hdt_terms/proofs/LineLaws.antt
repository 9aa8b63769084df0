-- The exits of code that parses a line, and laws for any kind of line.
use Rattle.std.proofs.Common.{◌≡◌, true, false, ℕ, List, length, Option, None, Some, Result, Ok, Err, refl, sym, subst}
use Rattle.std.proofs.Common.{◌∙◌, inl, inr, ◌⊎◌}
use Rattle.std.specs.Prelude.{IsUtf8}
use Rattle.std.specs.Str.Lossy.{utf8_valid_len}
use Rattle.hdt_terms.specs.declared.fault.ParseError.{ParseError}
use Rattle.hdt_terms.specs.declared.fault.ParseError.TheVariants as errors
use Rattle.hdt_terms.specs.declared.fault.FailedCheck.{FailedCheck}
use Rattle.hdt_terms.specs.declared.fault.TermFault.{TermFault}
use Rattle.hdt_terms.specs.Faults.{LocatesError, unless_not_utf8, out_of_memory, not_utf8_at}
use Rattle.hdt_terms.specs.LineParsing.{is_blank_or_comment, with_column, as_line, unless_blank}
use Rattle.hdt_terms.specs.TermParsing.{Fails}
use Rattle.hdt_terms.proofs.Cases.{chosen, done, ok_is}
use Rattle.hdt_terms.proofs.TermErrorTable.{not_valid}
use Rattle.hdt_terms.proofs.LawsLemmas.{checked_utf8}
use Rattle.hdt_terms.proofs.CompleteTexts.{checked_ok}

pub not_utf8_line : {A : Type 0} (text : List ℕ) (read : Result A FailedCheck) → ¬ (IsUtf8 text)
    → unless_blank text read ≡ Err (not_utf8_at (utf8_valid_len text))
unfolding unless_blank unless_not_utf8
not_utf8_line text read none = rw (not_valid text none) refl

module _ {A : Type 0} (text : List ℕ) (read : Result A FailedCheck) (utf8 : IsUtf8 text) where
  pub bare_line : is_blank_or_comment text ≡ true → unless_blank text read ≡ Ok None
  unfolding unless_blank
  bare_line b = checked_ok text _ utf8 ∙ rw b refl

  pub read_line : (x : A) → is_blank_or_comment text ≡ false → read ≡ Ok x → unless_blank text read ≡ Ok (Some x)
  unfolding unless_blank
  read_line x some e = checked_ok text _ utf8 ∙ rw (some, e) refl

  pub fails_line : (error : ParseError) (fault : TermFault) → is_blank_or_comment text ≡ false → Fails error read
      → LocatesError (length text) error fault → (fault ≡ out_of_memory) ⊎ (unless_blank text read ≡ Err fault)
  unfolding unless_blank
  fails_line errors.OutOfMemory fault some h f = inl f
  fails_line (errors.Check stop) fault some h f = inr (checked_ok text _ utf8 ∙ rw (some, h, f) refl)

-- if parsing is sound for blank and other lines, it is sound
module _ {A : Type 0} (Says : List ℕ → Option A → Type 0) (read : List ℕ → Result A FailedCheck) (bare : (text : List ℕ)
    → IsUtf8 text → is_blank_or_comment text ≡ true → Says text None)
    (found : (text : List ℕ) (x : A) → IsUtf8 text → is_blank_or_comment text ≡ false → read text ≡ Ok x
    → Says text (Some x)) where
  found_there : (text : List ℕ) (r : Result A FailedCheck) (x : Option A) → IsUtf8 text
      → is_blank_or_comment text ≡ false → read text ≡ r → as_line (with_column text r) ≡ done x → Says text x
  found_there text (Ok y) x utf8 b h e = subst (Says text) (ok_is (Some y) x e) (found text y utf8 b h)
  found_there text (Err stop) x utf8 b h e = absurd cc

  pub line_read : (text : List ℕ) (x : Option A) → unless_blank text (read text) ≡ Ok x → Says text x
  unfolding unless_blank
  line_read text x e =
      let utf8 = checked_utf8 text _ x e in
      elim (chosen (is_blank_or_comment text) (done None) (as_line (with_column text (read text))) (done x)
      (sym (checked_ok text _ utf8) ∙ e)) [
        | inl p ↦ subst (Says text) (ok_is None x p.1) (bare text utf8 p.0)
        | inr p ↦ found_there text (read text) x utf8 p.0 refl p.1
      ]
