-- Results for the text of a line.
use Rattle.std.proofs.Common.{◌≡◌, ℕ, ◌+◌, Bool, true, false, List, Ok, Err, sym, ap, ◌∙◌, ◌⊎◌, refl}
use Rattle.std.specs.Prelude.{IsUtf8}
use Rattle.std.specs.Str.Lossy.{utf8_valid_len}
use Rattle.hdt_terms.specs.declared.fault.LineFault.{LineFault}
use Rattle.hdt_terms.specs.declared.fault.LineReason.TheVariants.{NotUtf8}
use Rattle.hdt_terms.specs.declared.fault.TermFault.{TermFault}
use Rattle.hdt_terms.specs.LineParsing.{is_blank_or_comment, line_triple}
use Rattle.hdt_terms.specs.Faults.{out_of_memory, not_utf8_at}
use Rattle.hdt_terms.specs.LinesReader.{LinesState, ChecksLine, IsTripleLineError}
use Rattle.hdt_terms.proofs.LineSoundness.{bare_found, fault_of_triple}
use Rattle.hdt_terms.proofs.LineLaws.{not_utf8_line}

pub looked : (s : LinesState) (text : List ℕ) (b : Bool) → IsUtf8 text → b ≡ is_blank_or_comment text
    → ChecksLine (Ok b) s text
looked s text true utf8 e = (utf8, bare_found text (sym e))
looked s text false utf8 e = (utf8, sym e)

pub not_text : (s : LinesState) (text : List ℕ) (f : TermFault) (fault : LineFault) → ¬ (IsUtf8 text)
    → f ≡ not_utf8_at (utf8_valid_len text)
    → fault ≡ record { line = s.ends + 1; column = f.column; reason = f.reason } → ChecksLine (Err fault) s text
not_text s text f fault none is told = (
  ap (λ (x : LineFault). x.line) told,
  ap (λ (x : LineFault). x.reason) told ∙ ap (λ (x : TermFault). x.reason) is,
  not_utf8_line text _ none
      ∙ ap (λ k. Err (record { column = k; reason = NotUtf8 }))
      (sym (ap (λ (x : LineFault). x.column) told ∙ ap (λ (x : TermFault). x.column) is)),
)

pub no_triple : (s : LinesState) (text : List ℕ) (f : TermFault) (fault : LineFault) → IsUtf8 text → (f ≡ out_of_memory)
    ⊎ (line_triple text ≡ Err f)
    → fault ≡ record { line = s.ends + 1; column = f.column; reason = f.reason } → (fault.line ≡ s.ends + 1)
    × IsTripleLineError fault.reason fault.column text
no_triple s text f fault utf8 h told = rw told (refl, fault_of_triple text f utf8 h)
