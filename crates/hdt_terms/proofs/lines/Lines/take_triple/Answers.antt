use Rattle.hdt_terms.proofs.LineResults.{ready_fault, ready_taken}
use Rattle.hdt_terms.proofs.lines.Lines.take_triple.Goals as goal

pub returns-in-Err-parse-clause-does : goal.returns-in-Err-parse-clause-does
returns-in-Err-parse-clause-does g c =
    let found = rw c.in-Ok-Some.field-0-is at c.in-Ok-Some.ensures.does in
    ready_fault _ c.find_triple_line.new.self _ _ c.in-Ok-Some.n found c.in-Err-parse.fault c.in-Err-parse.ensures

pub returns-in-Ok-clause-does : goal.returns-in-Ok-clause-does
returns-in-Ok-clause-does g c =
    let found = rw c.in-Ok-Some.field-0-is at c.in-Ok-Some.ensures.does in
    ready_taken _ c.find_triple_line.new.self _ _ c.in-Ok-Some.n found c.take.new.self c.in-Ok.triple c.take.ensures
    c.in-Ok.ensures
