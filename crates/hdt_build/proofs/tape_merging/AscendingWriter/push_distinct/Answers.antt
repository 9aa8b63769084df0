use Rattle.std.proofs.Common.{refl}
use Rattle.hdt_build.proofs.AscendingTriples.{ascending_to, last_again, same_again}
use Rattle.hdt_build.proofs.TripleRuns.{same_self}
use Rattle.hdt_build.proofs.tape_merging.AscendingWriter.push_distinct.Goals as goal

pub returns-then-is_last : goal.returns-then-is_last
returns-then-is_last g c = λ yes known up.
    let ts = c.args.self.now.triples in
    let t = c.args.triple in
    (up, same_again ts t (last_again ts t c.args.self.now.last up (c.if-is_last.ensures refl)))

pub returns : goal.returns
returns g c = λ yes known up.
    let ts = c.args.self.now.triples in
    let t = c.args.triple in
    let pushed = c.in_ok-push.ensures known in
    rw pushed (ascending_to ts t c.args.self.now.last up (c.if-not-is_greater.ensures refl), same_self _)
