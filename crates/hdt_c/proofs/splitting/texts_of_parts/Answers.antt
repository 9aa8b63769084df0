-- Writers into memory that are empty at first.
use Rattle.std.proofs.Common.{◌≡◌, ℕ, List, [], ◌++◌, length, take, drop, map, replicate, sym, ap, ◌∙◌, arith, subst}
use Rattle.std.specs.Prelude.{Option, Some}
use Rattle.std.specs.Global.{Vec}
use Rattle.std.proofs.lemmas.List.{length-map}
use Rattle.std.proofs.lemmas.Result.{err_from_is_err_and}
use Rattle.hdt_wire.specs.Counted.{inner}
use Rattle.hdt_wire.specs.declared.counted.Counted.{Counted}
use Rattle.hdt_dict.specs.Strings.{BorrowedString}
use Rattle.hdt_terms.specs.Documents.{BeginsWithLines}
use Rattle.hdt_terms.specs.Split.{IsFaultAfter, SplitsInput, SplitsUntilFault}
use Rattle.hdt_terms.specs.declared.split.SplitFault.{SplitFault}
use Rattle.hdt_terms.specs.declared.split.SplitFault.TheVariants.{Line, Write, OutOfMemory}
use Rattle.hdt_c.specs.Splitting.{HasSplitFault, written_text, written_texts}
use Rattle.hdt_c.proofs.JoinLaws.{known_texts, whole_buffer}
use Rattle.hdt_c.proofs.splitting.texts_of_parts.Goals as goal

-- the error that ended the run is in the text
in_text : (text prefix : List ℕ) (input given : Option (List ℕ)) (before after : List (Option (List ℕ)))
    → (fault : SplitFault) → input ≡ Some text → SplitsUntilFault prefix input given before after fault
    → HasSplitFault text fault
in_text text prefix input given before after (Line fault) e until = record {
  given = given;
  lines = until.lines;
  are = subst (λ (input : Option (List ℕ)). BeginsWithLines input until.lines) e until.are;
  right = until.right;
  behind = subst (λ (input : Option (List ℕ)). IsFaultAfter fault input given until.lines) e until.behind;
}
in_text text prefix input given before after (Write part) e until = tt
in_text text prefix input given before after OutOfMemory e until = tt

pub returns-clause-ok : goal.returns-clause-ok
returns-clause-ok c =
    let text = λ (out : Counted (Vec ℕ)). Some (written_text out) in
    let known = λ (outs : List (Counted (Vec ℕ))). map (λ (out : Counted (Vec ℕ)). Some (written_text out)) outs in
    let some = λ (texts : List (List ℕ)). map (λ (part : List ℕ). Some part) texts in
    let new : List (Counted (Vec ℕ)) = c.split_document.new.outs in
    let before : known c.deref_mut.result.now ≡ replicate c.args.parts (Some []) = ap known c.deref_mut.ensures.value
    ∙ c.in_ok-outs.ensures in
    let size : length new ≡ c.in_ok-outs.outs.len =
    omega (
      arith,
      c.in_ok-report.ensures.ok.parts.0,
      length-map new text,
      length-map c.deref_mut.result.now text,
      ap (λ (outs : List (Counted (Vec ℕ))). length outs) c.deref_mut.ensures.value,
      c.in_ok-outs.outs.ok.0,
    ) in
    let gained = some (written_texts (take c.in_ok-outs.outs.len (new ++ drop (length new) c.in_ok-outs.outs.items))) in
    let after : known new ≡ gained =
    known_texts new ∙ ap (λ (l : List (Counted (Vec ℕ))). some (written_texts l))
    (sym (whole_buffer c.in_ok-outs.outs.len new c.in_ok-outs.outs.items size)) in
    subst (λ (input : Option (List ℕ)). SplitsInput c.args.prefix.now input
    (replicate c.args.parts (Some [])) gained c.in_ok-report.report)
    (ap (λ (s : BorrowedString). Some s.now) c.new.ensures.inner)
    (subst (λ (gained : List (Option (List ℕ))). SplitsInput c.args.prefix.now (Some (inner c.new.result).now)
    (replicate c.args.parts (Some [])) gained c.in_ok-report.report) after
    (subst (λ (had : List (Option (List ℕ))). SplitsInput c.args.prefix.now (Some (inner c.new.result).now) had
    (known new) c.in_ok-report.report) before c.in_ok-report.ensures.ok))

pub returns-in_err-report-clause-err : goal.returns-in_err-report-clause-err
returns-in_err-report-clause-err c =
    let fault : SplitFault = c.in_err-report.field-0.0 in
    let p = err_from_is_err_and c.from_residual-in_err-report.result c.from_residual-in_err-report.ensures.1 in
    rw (p.1, p.2)
    (in_text c.args.text.now c.args.prefix.now _ _ _ _ fault
    (ap (λ (s : BorrowedString). Some s.now) c.new.ensures.inner) c.in_err-report.ensures.stopped)
