use Rattle.std.proofs.Common.{arith}
use Rattle.hdt_triples.specs.Views.{triples_view}
use Rattle.hdt_triples.proofs.MatchCountLaws.{count_object_in_range, run_between}
use Rattle.hdt_triples.proofs.indexed.IndexedTriples.count_subject_predicate.Goals as goal

pub returns-clause-is : goal.returns-clause-is
returns-clause-is c =
    let f = triples_view c.args.self.now.triples in
    let r = c.match_range-at.result in
    let e = c.match_range-at.ensures in
    omega (
      arith,
      count_object_in_range f c.args.pattern r.0 r.1
          (run_between f c.args.pattern c.args.subject c.args.predicate r.0 r.1 e.run e.before),
    )
