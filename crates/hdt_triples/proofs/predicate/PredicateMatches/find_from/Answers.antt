use Rattle.std.proofs.Common.{arith}
use Rattle.hdt_triples.specs.Views.{triples_view}
use Rattle.hdt_triples.specs.Bounds.{predicate_cost}
use Rattle.hdt_triples.proofs.StartLaws.{list_digits_few, within_budget}
use Rattle.hdt_triples.proofs.predicate.PredicateMatches.find_from.Goals as goal

pub invariant_of-result : goal.invariant_of-result
invariant_of-result c =
    let f = triples_view c.args.listed.now.indexed.triples in
    let e = c.from_triple-cursor.ensures in
    record {
      positioned = e.positioned;
      few =
          within_budget (predicate_cost f c.args.predicate) f c.from_triple-cursor.result.at c.new.result e.within
          c.new.ensures;
    }

pub returns-clause-cost : goal.returns-clause-cost
returns-clause-cost c =
    let f = triples_view c.args.listed.now.indexed.triples in
    omega (
      arith,
      c.from_triple-cursor.ensures.cost,
      c.pairs_of-pairs.ensures.cost,
      list_digits_few f.array_y c.pairs_of-pairs.result.now c.args.predicate c.pairs_of-pairs.ensures.is,
    )
