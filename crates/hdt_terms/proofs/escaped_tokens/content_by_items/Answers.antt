use Rattle.std.proofs.Common.{◌≤◌, length, ap, subst, ◌∙◌, Ok}
use Rattle.hdt_terms.specs.declared.escaped_tokens.TokenItem.{TokenItem}
use Rattle.std.proofs.lemmas.Result.{err_from_is_err_and}
use Rattle.hdt_terms.specs.TermParsing.{skip_of}
use Rattle.hdt_terms.proofs.ContentReading.{fails, at_end, at_byte, at_char, at_nothing}
use Rattle.hdt_terms.proofs.UnescapedRuns.{longer}
use Rattle.hdt_terms.proofs.ContentReading.{front_err}
use Rattle.hdt_terms.proofs.Appends.{appended, fails_alone}
use Rattle.hdt_terms.proofs.escaped_tokens.content_by_items.Goals as goal

pub returns-in_err-next_item-clause-reads : goal.returns-in_err-next_item-clause-reads
returns-in_err-next_item-clause-reads c =
    let p = err_from_is_err_and c.from_residual.result c.from_residual.ensures.1 in
    rw (p.1, p.2) (fails_alone _ _ _
    (fails c.in_err-next_item.field-0.0 _ _ _ _ _ _
    (record { next = c.in-Some.ensures.cases.0; so_far = c.items.invariant.0 }) c.in_err-next_item.ensures.value))

pub returns-in-End-clause-reads : goal.returns-in-End-clause-reads
returns-in-End-clause-reads c =
    appended _ _ _ _ (at_end _ _ _ _ _ _ (record { next = c.in-Some.ensures.cases.0; so_far = c.items.invariant.0 })
    (c.in_ok-next_item.ensures.value ∙ ap Ok c.in-End.is))

pub items-preserved-in-Byte : goal.items-preserved-in-Byte
items-preserved-in-Byte c =
    let grown = c.in_ok-push-in-Byte.ensures.items in
    let here = at_byte _ _ _ _ _ _ _ (record { next = c.in-Some.ensures.cases.0; so_far = c.items.invariant.0 })
    (c.in_ok-next_item.ensures.value ∙ ap Ok c.in-Byte.is) in (
      c.in_ok-rest-in-Byte.ensures.goes_on ∙ rw grown here,
      longer _ _ _ _ _ c.items.invariant.1 grown c.append_plain.ensures.kept,
    )

pub items-preserved : goal.items-preserved
items-preserved c =
    let short : c.in-Char.len ≤ length c.in-Some.tail.now =
    subst (λ (x : TokenItem). skip_of x
    ≤ length c.in-Some.tail.now) c.in-Char.is c.in_ok-next_item.ensures.within in
    let grown = c.in_ok-append_char-in-Char.ensures.ok in
    let here = at_char _ _ _ _ _ _ _ _ (record { next = c.in-Some.ensures.cases.0; so_far = c.items.invariant.0 })
    (c.in_ok-next_item.ensures.value ∙ ap Ok c.in-Char.is) short in (
      c.in_ok-rest-in-Char.ensures.goes_on ∙ rw (grown, c.split_at.ensures.back) here,
      longer _ _ _ _ _ c.items.invariant.1 grown c.append_plain-in-Char.ensures.kept,
    )

pub returns-clause-reads : goal.returns-clause-reads
returns-clause-reads c = rw c.fail_at.ensures
    (front_err _ _ _ (at_nothing _ _ _ _ c.in_default.ensures.cases c.items.invariant.0))
