use Rattle.std.proofs.Common.{◌+◌, sym, ap, ◌∙◌}
use Rattle.hdt_terms.specs.LinesReader.{LinesState}
use Rattle.hdt_terms.proofs.LineResults.{rest_taken, bare_taken}
use Rattle.hdt_terms.proofs.LineTaking.{held_taken, look_fault, stands_unread, stands_behind}
use Rattle.hdt_terms.proofs.lines.Lines.find_triple_line.Goals as goal

pub returns-in-Err-clause-does : goal.returns-in-Err-clause-does
returns-in-Err-clause-does g c =
    let before = c.lines.invariant.taken in
    let buffered = c.in-Err.ensures in
    rw c.fault.ensures (stands_behind _ _ c.lines.self _ _ _ before.0 before.1 before.2
    (ap (λ (s : LinesState). s.ends + 1) buffered.others)
    (stands_unread c.in-Err.reason _ _ _ _ _ _ buffered.below_limit buffered.does))

pub returns-in-Err-check_line-clause-does : goal.returns-in-Err-check_line-clause-does
returns-in-Err-check_line-clause-does g c =
    let before = c.lines.invariant.taken in
    let buffered = c.in-Ok.ensures in
    look_fault _ c.lines.self c.buffer_line.new.self c.buffer_line.new.self _ _ _ c.in-Ok.found.0 _ before.0 before.1
    before.2 buffered.does buffered.others buffered.within c.in-Err-check_line.fault c.in-Err-check_line.ensures

pub returns-then-self-clause-does : goal.returns-then-self-clause-does
returns-then-self-clause-does g c =
    let before = c.lines.invariant.taken in
    let buffered = c.in-Ok.ensures in
    let taken = held_taken _ c.lines.self c.buffer_line.new.self c.take.new.self _ _ _ c.in-Ok.found.0 _ before.0
    before.1 before.2 buffered.does buffered.others buffered.within c.lines.invariant.going c.take.ensures in
    rest_taken _ c.lines.self c.take.new.self _ _ _ before.0 _ _ before.1 before.2 taken
    (rw c.in-Ok-true.field-0-test at c.in-Ok-true.ensures)
    (ap (λ (s : LinesState). s.ended) (sym c.self-in-lines.view_is) ∙ c.if-self.true)

pub lines-preserved : goal.lines-preserved
lines-preserved g c =
    let before = c.lines.invariant.taken in
    let buffered = c.in-Ok.ensures in
    let taken = held_taken _ c.lines.self c.buffer_line.new.self c.take.new.self _ _ _ c.in-Ok.found.0 _ before.0
    before.1 before.2 buffered.does buffered.others buffered.within c.lines.invariant.going c.take.ensures in
    let going = ap (λ (s : LinesState). s.ended) (sym c.self-in-lines.view_is) ∙ c.if-self.false in
    record {
      taken = bare_taken _ c.lines.self c.take.new.self _ _ _ before.0 _ _ before.1 before.2 taken
          (rw c.in-Ok-true.field-0-test at c.in-Ok-true.ensures) going;
      going = going;
      count = buffered.reader_unfailed ∙ c.lines.invariant.count;
    }
