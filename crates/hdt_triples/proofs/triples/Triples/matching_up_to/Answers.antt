use Rattle.std.proofs.Common.{arith, length}
use Rattle.hdt_triples.specs.Views.{triples_view}
use Rattle.hdt_triples.proofs.MatchCountLaws.{all_between, count_object_in_range}
use Rattle.hdt_triples.proofs.triples.Triples.matching_up_to.Goals as goal

pub returns-in-None-None-None-clause-is : goal.returns-in-None-None-None-clause-is
returns-in-None-None-None-clause-is c =
    let f = triples_view c.args.self.now in
    let all = count_object_in_range f c.args.pattern 0 (length f.array_z)
    (all_between f c.args.pattern c.in-None-None-None.is-0 c.in-None-None-None.is-1 c.in-None-None-None.is-2) in
    omega (arith, c.len.ensures, c.min.ensures, all)
