use Rattle.std.proofs.Common.{arith}
use Rattle.hdt_triples.specs.Bounds.{lookup_cost, of_subject}
use Rattle.hdt_triples.specs.Views.{triples_view}
use Rattle.hdt_triples.proofs.MatchCountLaws.{count_object_in_range}
use Rattle.hdt_triples.proofs.indexed.IndexedTriples.count_subject_object_by_scan.Goals as goal

pub returns-clause-cost : goal.returns-clause-cost
unfolding lookup_cost
returns-clause-cost c =
    let from = c.subject_range-from in
    let f = triples_view c.args.self.now.triples in
    omega (
      arith,
      c.count_object_in_range.ensures.cost,
      from.ensures.cost,
      count_object_in_range f (of_subject c.args.subject) from.result.0 from.result.1 from.ensures.are,
    )
