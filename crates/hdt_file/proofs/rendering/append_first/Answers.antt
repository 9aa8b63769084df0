use Rattle.std.proofs.Common.{◌-◌, arith}
use Rattle.hdt_triples.specs.Remaining.{remaining_matches}
use Rattle.hdt_file.proofs.PagingLaws.{continues}
use Rattle.hdt_file.proofs.rendering.append_first.Goals as goal

pub triples-preserved : goal.triples-preserved
triples-preserved c =
    let l = c.triples in
    continues (remaining_matches c.args.matches.now) c.args.most c.args.out.now.items l.out.items c.push.new.self.items
    l.remaining (l.remaining - 1) c.in-Some.triple (remaining_matches l.matches) (remaining_matches c.next.new.self)
    (omega (arith, c.triples-test.true)) c.in-Some.ensures.steps.0 c.in-Ok.ensures.items l.invariant
