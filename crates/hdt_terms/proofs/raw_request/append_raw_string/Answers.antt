use Rattle.std.proofs.Common.{ap, ◌∷◌, ◌∙◌, arith}
use Rattle.hdt_terms.proofs.RawStrings.{tab_read, end_read, byte_goes, escape_goes, bad_read}
use Rattle.hdt_terms.proofs.raw_request.append_raw_string.Goals as goal

pub returns-in-9 : goal.returns-in-9
returns-in-9 c = tab_read _ _ _ _ c.bytes.invariant c.in-Some.tail.now (c.in-Some.ensures.cases.0
    ∙ ap (λ b. b ∷ c.in-Some.tail.now) c.in-9.is)

pub returns-in_default-letter_at : goal.returns-in_default-letter_at
returns-in_default-letter_at c =
    rw c.fail_at.ensures (bad_read _ _ _ _ c.bytes.invariant c.in-Some.tail.now (c.in-Some.ensures.cases.0
    ∙ ap (λ b. b ∷ c.in-Some.tail.now) c.in-92.is) c.in_default-letter_at.ensures)

pub bytes-preserved-in-92 : goal.bytes-preserved-in-92
bytes-preserved-in-92 c =
    let found = c.in-Some-letter_at.ensures in
    escape_goes _ _ _ _ c.bytes.invariant found.0 c.in-Some-letter_at.byte c.in-Some.tail.now
    c.in-Some-letter_at.behind.now _
    (c.in-Some.ensures.cases.0
    ∙ ap (λ b. b ∷ c.in-Some.tail.now) c.in-92.is) found.1 found.2 c.in_ok-push-in-92.ensures.items

pub bytes-preserved : goal.bytes-preserved
bytes-preserved c =
    byte_goes _ _ _ _ c.bytes.invariant c.in-Some.first.now c.in-Some.tail.now _ c.in-Some.ensures.cases.0 (omega arith)
    (omega arith) c.in_ok-push-in_default-first.ensures.items

pub returns : goal.returns
returns c = end_read _ _ _ _ c.bytes.invariant c.in_default.ensures.cases
