use Rattle.hdt_build.proofs.StringCursors.{stepped}
use Rattle.hdt_build.proofs.run_merging.RunCursor.step.Goals as goal

pub returns-in_ok-self : goal.returns-in_ok-self
returns-in_ok-self c = λ xs h.
    stepped xs c.args.self.now h c.if-self.true c.in_ok-self.field-0 c.next.new.self
    c.in_ok-self.ensures.some
