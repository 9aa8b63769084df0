use Rattle.std.proofs.Common.{ap, arith, length}
use Rattle.hdt_triples.specs.Views.{triples_view}
use Rattle.hdt_triples.proofs.MatchCountLaws.{in_subject_first, in_subject_on, in_subject_over}
use Rattle.hdt_triples.proofs.ScanLaws.{matches_fit}
use Rattle.hdt_triples.proofs.triples.Triples.count_object_in_range.Goals as goal

pub triples-init : goal.triples-init
triples-init c =
    let a = c.args in
    let r = c.requires in
    record {
      from = omega arith;
      to = r.between.ordered;
      so_far = omega (
        arith,
        ap length
            (in_subject_first (triples_view a.self.now) a.pattern a.subject a.from a.to r.subject_given r.between),
      );
      cost = omega arith;
    }

pub read_entry-requires : goal.read_entry-requires
unfolding triples_view
read_entry-requires c = omega (arith, c.triples-test.true, c.requires.between.within)

pub overflow_add-count : goal.overflow_add-count
unfolding triples_view
overflow_add-count c =
    let a = c.args in
    let r = c.requires in
    omega (
      arith,
      c.triples.invariant.so_far,
      in_subject_on (triples_view a.self.now) a.pattern a.subject a.object a.from a.to c.triples.at c.read_entry.result
          c.from-count.result r.subject_given r.predicate_free r.object_given
          r.between c.triples.invariant.from c.triples-test.true c.read_entry.ensures.is c.from-count.ensures,
      matches_fit a.pattern a.self.now,
    )

pub triples-preserved : goal.triples-preserved
unfolding triples_view
triples-preserved c =
    let a = c.args in
    let r = c.requires in
    record {
      from = omega (arith, c.triples.invariant.from);
      to = omega (arith, c.triples-test.true);
      so_far = omega (
        arith,
        c.triples.invariant.so_far,
        in_subject_on (triples_view a.self.now) a.pattern a.subject a.object a.from a.to c.triples.at
            c.read_entry.result c.from-count.result r.subject_given r.predicate_free r.object_given
            r.between c.triples.invariant.from c.triples-test.true c.read_entry.ensures.is c.from-count.ensures,
      );
      cost = omega (arith, c.triples.invariant.cost, c.read_entry.ensures.cost);
    }

pub returns-clause-is : goal.returns-clause-is
returns-clause-is c =
    let a = c.args in
    let r = c.requires in
    omega (
      arith,
      c.triples.invariant.so_far,
      ap length (in_subject_over (triples_view a.self.now) a.pattern a.subject a.from a.to c.triples.at r.subject_given
          r.between c.triples-test.false (omega (arith, c.triples.invariant.to, r.between.within))),
    )

pub returns-clause-cost : goal.returns-clause-cost
returns-clause-cost c = omega (
  arith,
  c.triples.invariant.cost,
  c.triples.invariant.to,
  c.triples.invariant.from,
  c.triples-test.false,
)
