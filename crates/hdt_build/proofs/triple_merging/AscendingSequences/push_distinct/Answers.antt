use Rattle.std.proofs.Common.{refl}
use Rattle.hdt_build.proofs.MergedSequences.{greater_pushed, last_pushed}
use Rattle.hdt_build.proofs.triple_merging.AscendingSequences.push_distinct.Goals as goal

pub returns-then-is_last : goal.returns-then-is_last
returns-then-is_last c = λ yes ts h. last_pushed ts c.args.triple c.args.self.now (c.if-is_last.ensures refl) h

pub returns : goal.returns
returns c = λ yes ts h.
    greater_pushed ts c.args.triple c.args.self.now _ c.in_ok-push.ensures (c.if-not-is_greater.ensures refl) h
