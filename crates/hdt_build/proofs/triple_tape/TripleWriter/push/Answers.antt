use Rattle.hdt_build.proofs.TripleTapes.{end_more, one_more}
use Rattle.hdt_build.proofs.triple_tape.TripleWriter.push.Goals as goal

pub invariant_of-self-2 : goal.invariant_of-self-2
invariant_of-self-2 g c = λ known.
    end_more c.in-Some.last c.step_to.result c.args.triple c.step_to.ensures c.self.inside.numbers
    c.push_numbers.new.numbers (rw c.in-Some.is at (c.self.invariant known)) (c.in_ok-push_numbers.ensures known)

pub returns : goal.returns
returns g c = λ known.
    rw (← c.self.view_is) (one_more c.in-Some.last c.step_to.result c.args.triple c.step_to.ensures
    c.self.inside.numbers c.push_numbers.new.numbers (rw c.in-Some.is at (c.self.invariant known))
    (c.in_ok-push_numbers.ensures known))
