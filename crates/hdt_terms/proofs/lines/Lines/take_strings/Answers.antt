use Rattle.hdt_terms.proofs.LineResults.{ready_fault, ready_taken}
use Rattle.hdt_terms.proofs.lines.Lines.take_strings.Goals as goal

pub returns-in-Err-parse_strings-clause-does : goal.returns-in-Err-parse_strings-clause-does
returns-in-Err-parse_strings-clause-does g c =
    let found = rw c.in-Ok-Some.field-0-is at c.in-Ok-Some.ensures.does in
    ready_fault _ c.find_triple_line.new.self _ _ c.in-Ok-Some.n found c.in-Err-parse_strings.fault
    c.in-Err-parse_strings.ensures

pub returns-in-Ok-clause-does : goal.returns-in-Ok-clause-does
returns-in-Ok-clause-does g c =
    let found = rw c.in-Ok-Some.field-0-is at c.in-Ok-Some.ensures.does in
    let read = c.in-Ok.ensures in (
      read.0,
      read.2,
      ready_taken _ c.find_triple_line.new.self _ _ c.in-Ok-Some.n found c.take.new.self read.0
          c.take.ensures read.1,
    )
