use Rattle.hdt_terms.proofs.LineEnds.{AppendsInput-trans, found_front}
use Rattle.hdt_terms.proofs.line_buffer.fill.Goals as goal

pub returns-in-Some-clause-does : goal.returns-in-Some-clause-does
returns-in-Some-clause-does g c =
    let more = rw c.in-Ok-true.field-0-test at c.in-Ok-true.ensures.does in
    let found = rw c.as_slice.ensures at c.in-Some.ensures in
    (AppendsInput-trans _ _ _ _ _ _ c.fill.invariant.grew more.0, found_front _ c.in-Some.end_at _ found, more.2)
