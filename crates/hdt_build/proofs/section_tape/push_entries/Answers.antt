use Rattle.std.proofs.Common.{List, ℕ, subst}
use Rattle.hdt_build.specs.Inside.SectionTapes.{HavePushedEntries}
use Rattle.hdt_build.proofs.SectionTapes.{one_pushed}
use Rattle.hdt_build.proofs.section_tape.push_entries.Goals as goal

pub numbers-preserved : goal.numbers-preserved
numbers-preserved g c = λ known.
    let l = c.numbers in
    let is = rw c.in-Some.is at c.in_ok-number.ensures.some in
    one_pushed c.args.numbers.now c.next_number.new.reader c.in-Some.number l.count c.in-Some-checked_add.next
    c.args.writer.now l.writer c.push.new.self
    (subst (λ (rest : List ℕ). HavePushedEntries c.args.numbers.now rest l.count c.args.writer.now l.writer) (is known)
    (l.invariant known))
    c.in-Some-checked_add.ensures.1 c.in_ok-push.ensures
