use Rattle.std.proofs.Common.{arith}
use Rattle.hdt_triples.specs.Bounds.{of_subject}
use Rattle.hdt_triples.specs.Views.{triples_view}
use Rattle.hdt_triples.proofs.MatchCountLaws.{count_object_in_range}
use Rattle.hdt_triples.proofs.indexed.IndexedTriples.count_subject.Goals as goal

pub returns-clause-is : goal.returns-clause-is
returns-clause-is c =
    let r = c.subject_range-at.result in
    omega (
      arith,
      count_object_in_range (triples_view c.args.self.now.triples)
          (of_subject c.args.subject) r.0 r.1 c.subject_range-at.ensures.are,
    )
