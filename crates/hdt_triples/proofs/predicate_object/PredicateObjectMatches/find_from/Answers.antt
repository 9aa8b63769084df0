use Rattle.std.proofs.Common.{arith, ap, length, ◌≡◌, ◌*◌, ◌+◌, ◌≤◌, ◌∙◌}
use Rattle.std.proofs.Math.Nat.{mul-le-mul_left}
use Rattle.hdt_triples.specs.Bounds.{step_bound, object_cost, of_object, pair_search_cost}
use Rattle.hdt_triples.specs.InvertedIndex.{positions_of}
use Rattle.hdt_triples.specs.Views.{triples_view}
use Rattle.hdt_triples.proofs.MatchCountLaws.{object_count}
use Rattle.hdt_triples.proofs.PredicateObjectLaws.{shorter}
use Rattle.hdt_triples.proofs.ScanLaws.{matches_fit}
use Rattle.hdt_triples.proofs.StartLaws.{list_digits_few}
use Rattle.hdt_triples.proofs.predicate_object.PredicateObjectMatches.find_from.Goals as goal

pub returns-then-by_object-saturating_mul-clause-short : goal.returns-then-by_object-saturating_mul-clause-short
unfolding step_bound object_cost
returns-then-by_object-saturating_mul-clause-short c =
    let f = triples_view c.args.listed.now.indexed.triples in
    let pairs = c.pairs_of-pairs.result.now in
    let product : c.from-pair.result * (1 + length pairs)
    ≡ pair_search_cost f * (1 + length (positions_of f.array_y c.args.predicate)) =
    ap (λ k. k * (1 + length pairs)) (c.from-pair.ensures ∙ c.pair_search_cost.ensures)
    ∙ ap (λ qs. pair_search_cost f * (1 + length qs)) c.pairs_of-pairs.ensures.is in
    omega (
      arith,
      shorter c.find_from.result,
      c.find_from.ensures.few,
      c.if-by_object-saturating_mul.true,
      c.saturating_mul.ensures,
      product,
      ap length c.positions_of-places.ensures.is,
      object_count f c.args.object,
    )

pub invariant_of-result : goal.invariant_of-result
unfolding step_bound object_cost
invariant_of-result c =
    let f = triples_view c.args.listed.now.indexed.triples in
    let pairs = c.pairs_of-pairs.result.now in
    let product : c.from-pair.result * (1 + length pairs)
    ≡ pair_search_cost f * (1 + length (positions_of f.array_y c.args.predicate)) =
    ap (λ k. k * (1 + length pairs)) (c.from-pair.ensures ∙ c.pair_search_cost.ensures)
    ∙ ap (λ qs. pair_search_cost f * (1 + length qs)) c.pairs_of-pairs.ensures.is in
    let few : pair_search_cost f * (1 + length (positions_of f.array_y c.args.predicate))
    ≤ step_bound (object_cost c.args.object) f =
    omega (
      arith,
      c.if-by_object-saturating_mul.false,
      c.saturating_mul.ensures,
      product,
      ap length c.positions_of-places.ensures.is,
      object_count f c.args.object,
      matches_fit (of_object c.args.object) c.args.listed.now.indexed.triples,
    ) in
    record {
      free = c.requires.free;
      predicate_given = c.requires.predicate_given;
      object_given = c.requires.object_given;
      between = c.pairs_from-at.ensures.between;
      short = omega (
        arith,
        c.new.ensures,
        mul-le-mul_left (pair_search_cost f) c.pairs_from-at.ensures.fewer,
        ap (λ qs. pair_search_cost f * length qs) c.pairs_of-pairs.ensures.is,
      );
      few = few;
    }

pub returns-clause-cost : goal.returns-clause-cost
returns-clause-cost c =
    let f = triples_view c.args.listed.now.indexed.triples in
    omega (
      arith,
      c.pairs_from-at.ensures.cost,
      c.pairs_of-pairs.ensures.cost,
      c.positions_of-places.ensures.cost,
      list_digits_few f.array_y c.pairs_of-pairs.result.now c.args.predicate c.pairs_of-pairs.ensures.is,
    )
