use Rattle.std.proofs.Common.{arith}
use Rattle.hdt_triples.specs.Bounds.{lookup_cost, of_subject}
use Rattle.hdt_triples.specs.Views.{triples_view}
use Rattle.hdt_triples.proofs.MatchCountLaws.{both_count, count_object_in_range, list_digits}
use Rattle.hdt_triples.proofs.PositionListLaws.{list_ascends}
use Rattle.hdt_triples.proofs.listed_triples.ListedTriples.count_subject_object.Goals as goal

pub lower_bound-low-requires : goal.lower_bound-low-requires
lower_bound-low-requires c =
    record {
      ascend = list_ascends
          (triples_view c.args.self.now.indexed.triples).array_z c.positions_of-places.result.now c.args.object
          c.positions_of-places.ensures.is;
    }

pub lower_bound-high-requires : goal.lower_bound-high-requires
lower_bound-high-requires c =
    record {
      ascend = list_ascends
          (triples_view c.args.self.now.indexed.triples).array_z c.positions_of-places.result.now c.args.object
          c.positions_of-places.ensures.is;
    }

pub overflow_sub-result : goal.overflow_sub-result
overflow_sub-result c =
    let f = triples_view c.args.self.now.indexed.triples in
    let from = c.subject_range-from in
    let low = c.lower_bound-low in
    let high = c.lower_bound-high in
    (both_count f c.args.pattern c.args.subject c.args.object from.result.0 from.result.1 low.result high.result
    c.positions_of-places.result.now c.requires.subject_given c.requires.predicate_free c.requires.object_given
    from.ensures.are c.positions_of-places.ensures.is low.ensures.high high.ensures.high low.ensures.below
    low.ensures.above high.ensures.below high.ensures.above).0

pub returns-clause-is : goal.returns-clause-is
returns-clause-is c =
    let f = triples_view c.args.self.now.indexed.triples in
    let from = c.subject_range-from in
    let low = c.lower_bound-low in
    let high = c.lower_bound-high in
    omega (
      arith,
      (both_count f c.args.pattern c.args.subject c.args.object from.result.0 from.result.1 low.result high.result
          c.positions_of-places.result.now c.requires.subject_given c.requires.predicate_free c.requires.object_given
          from.ensures.are c.positions_of-places.ensures.is low.ensures.high high.ensures.high low.ensures.below
          low.ensures.above high.ensures.below high.ensures.above).1,
    )

pub returns-then-to-from-clause-by_subject : goal.returns-then-to-from-clause-by_subject
unfolding lookup_cost
returns-then-to-from-clause-by_subject c =
    let from = c.subject_range-from in
    let f = triples_view c.args.self.now.indexed.triples in
    omega (
      arith,
      c.count_object_in_range.ensures.cost,
      c.positions_of-places.ensures.cost,
      from.ensures.cost,
      count_object_in_range f (of_subject c.args.subject) from.result.0 from.result.1 from.ensures.are,
    )

pub returns-then-to-from-clause-by_object : goal.returns-then-to-from-clause-by_object
unfolding lookup_cost
returns-then-to-from-clause-by_object c =
    let f = triples_view c.args.self.now.indexed.triples in
    omega (
      arith,
      c.count_object_in_range.ensures.cost,
      c.positions_of-places.ensures.cost,
      c.subject_range-from.ensures.cost,
      c.if-to-from.true,
      c.digits_of.ensures.is,
      list_digits f c.args.object c.positions_of-places.result.now c.positions_of-places.ensures.is,
    )

pub returns-clause-by_subject : goal.returns-clause-by_subject
unfolding lookup_cost
returns-clause-by_subject c =
    let from = c.subject_range-from in
    let f = triples_view c.args.self.now.indexed.triples in
    omega (
      arith,
      c.lower_bound-high.ensures.cost,
      c.lower_bound-low.ensures.cost,
      c.positions_of-places.ensures.cost,
      from.ensures.cost,
      c.if-to-from.false,
      c.digits_of.ensures.is,
      count_object_in_range f (of_subject c.args.subject) from.result.0 from.result.1 from.ensures.are,
    )

pub returns-clause-by_object : goal.returns-clause-by_object
unfolding lookup_cost
returns-clause-by_object c =
    let f = triples_view c.args.self.now.indexed.triples in
    omega (
      arith,
      c.lower_bound-high.ensures.cost,
      c.lower_bound-low.ensures.cost,
      c.positions_of-places.ensures.cost,
      c.subject_range-from.ensures.cost,
      list_digits f c.args.object c.positions_of-places.result.now c.positions_of-places.ensures.is,
    )
