use Rattle.std.proofs.Common.{◌<◌, ◌+◌, ◌∙◌, ap, arith, drop, length, refl, sym}
use Rattle.std.proofs.lemmas.Bool.{eqb-true, eqb-false}
use Rattle.std.proofs.lemmas.List.{nil_from_length}
use Rattle.hdt_triples.specs.Bounds.{of_predicate}
use Rattle.hdt_triples.specs.Patterns.{matches}
use Rattle.hdt_triples.specs.Views.{triples_view}
use Rattle.hdt_triples.proofs.InvertedIndexLaws.{split_rest}
use Rattle.hdt_triples.proofs.MatchCountLaws.{between_on, pairs_paid, pairs_pay_on, predicate_on}
use Rattle.hdt_triples.proofs.PredicateLaws.{between_first, next_of, predicate_over}
use Rattle.hdt_triples.proofs.ScanLaws.{from_start, matches_fit}
use Rattle.hdt_triples.proofs.listed_triples.ListedTriples.count_predicate_by_pairs.Goals as goal
use Rattle.hdt_triples.proofs.listed_triples.ListedTriples.count_predicate_by_pairs.Goals.{then-pairs-test+else-not-is_empty}
use Rattle.hdt_triples.proofs.listed_triples.ListedTriples.count_predicate_by_pairs.Goals.{else-pairs-test}

pub pairs-init : goal.pairs-init
pairs-init c =
    let f = triples_view c.args.self.now.indexed.triples in
    record {
      so_far = (
        0,
        between_first f c.args.predicate c.args.pairs.now c.requires,
        omega (arith, ap (λ ts. length (matches (of_predicate c.args.predicate) ts)) (from_start f)),
      );
      cost = (0, omega arith, omega arith, omega arith, omega arith);
      more = omega arith;
    }

pub triple_range-at-requires-clause-within : goal.triple_range-at-requires-clause-within
triple_range-at-requires-clause-within c =
    let f = triples_view c.args.self.now.indexed.triples in
    let rest = c.pairs.rest.now in
    let at = c.pairs.invariant.so_far in
    let some : 0 < length rest =
    omega (arith, eqb-false (length rest) 0 (sym c.is_empty.ensures ∙ c.if-not-is_empty.true)) in
    (next_of f c.args.predicate at.0 c.read_list-pair.result rest (drop 1 rest) at.1
    (split_rest rest (drop 1 rest) c.read_list-pair.result some c.read_list-pair.ensures.is refl)).within

pub overflow_add-count : goal.overflow_add-count
unfolding triples_view
overflow_add-count c =
    let t = c.args.self.now.indexed.triples in
    let f = triples_view t in
    let rest = c.pairs.rest.now in
    let at = c.pairs.invariant.so_far in
    let some : 0 < length rest =
    omega (arith, eqb-false (length rest) 0 (sym c.is_empty.ensures ∙ c.if-not-is_empty.true)) in
    let e = c.triple_range-at.ensures.are in
    omega (
      arith,
      e.some,
      at.2,
      predicate_on f c.args.predicate at.0 c.read_list-pair.result c.triple_range-at.result.0 c.triple_range-at.result.1
          rest (drop 1 rest) t.valid.marked at.1
          (split_rest rest (drop 1 rest) c.read_list-pair.result some c.read_list-pair.ensures.is refl) e,
      matches_fit (of_predicate c.args.predicate) t,
    )

pub pairs-preserved : goal.pairs-preserved
unfolding triples_view
pairs-preserved c =
    let t = c.args.self.now.indexed.triples in
    let f = triples_view t in
    let q = c.read_list-pair.result in
    let rest = c.pairs.rest.now in
    let qs = c.split_at.result.1.now in
    let at = c.pairs.invariant.so_far in
    let some : 0 < length rest =
    omega (arith, eqb-false (length rest) 0 (sym c.is_empty.ensures ∙ c.if-not-is_empty.true)) in
    let split = split_rest rest qs q some c.read_list-pair.ensures.is c.split_at.ensures.back in
    let e = c.triple_range-at.ensures.are in
    let r = c.triple_range-at.result in
    record {
      so_far = (
        r.1,
        between_on f c.args.predicate at.0 q r.0 r.1 rest qs at.1 split e,
        omega (
          arith,
          e.some,
          at.2,
          predicate_on f c.args.predicate at.0 q r.0 r.1 rest qs t.valid.marked at.1 split e,
        ),
      );
      cost =
          let k = c.pairs.invariant.cost in (
            k.0 + 1,
            omega (arith, k.1, ap length split),
            omega (arith, k.2, e.some),
            omega (arith, k.2, c.pairs-test.true),
            pairs_pay_on f k.0 c.args.steps.now c.pairs.steps c.triple_range-at.new.steps
                (omega (arith, c.read_list-pair.ensures.cost, c.triple_range-at.ensures.cost)) k.4,
          );
      more = omega (arith, c.pairs.invariant.more, c.read_list-pair.ensures.cost, c.triple_range-at.ensures.more);
    }

pub returns-clause-is : goal.returns-clause-is
unfolding triples_view
returns-clause-is c =
    let t = c.args.self.now.indexed.triples in
    let rest = c.pairs.rest.now in
    let at = c.pairs.invariant.so_far in
    elim c.pairs-test.branch [
      | then-pairs-test+else-not-is_empty w ↦
          let none = predicate_over (triples_view t) c.args.predicate at.0 rest t.valid.marked at.1
          (nil_from_length rest (eqb-true (length rest) 0 (sym w.is_empty.ensures ∙ w.if-not-is_empty.false))) in
          omega (arith, c.min.ensures, at.2, ap length none)
      | else-pairs-test w ↦ omega (arith, c.min.ensures, at.2, w.pairs-test.false)
    ]

pub returns-clause-cost : goal.returns-clause-cost
returns-clause-cost c =
    let k = c.pairs.invariant.cost in
    pairs_paid (triples_view c.args.self.now.indexed.triples) k.0 (length c.pairs.rest.now)
    (length c.args.pairs.now) c.args.most c.args.steps.now c.pairs.steps k.1 k.3 k.4
