use Rattle.std.proofs.Common.{arith, ap, length, ◌≡◌, ◌*◌, ◌+◌, ◌≤◌, ◌∙◌}
use Rattle.hdt_triples.specs.Bounds.{step_bound, object_cost, of_object, pair_search_cost}
use Rattle.hdt_triples.specs.InvertedIndex.{positions_of}
use Rattle.hdt_triples.specs.Patterns.{matches}
use Rattle.hdt_triples.specs.Views.{triples_view}
use Rattle.hdt_triples.specs.Remaining.{remaining_matches}
use Rattle.hdt_triples.proofs.MatchCountLaws.{object_count}
use Rattle.hdt_triples.proofs.PredicateLaws.{between_first}
use Rattle.hdt_triples.proofs.PredicateObjectLaws.{look_is, shorter}
use Rattle.hdt_triples.proofs.ScanLaws.{from_start, matches_fit}
use Rattle.hdt_triples.proofs.predicate_object.PredicateObjectMatches.find.Goals as goal

pub returns-then-by_object-saturating_mul-clause-short : goal.returns-then-by_object-saturating_mul-clause-short
unfolding step_bound object_cost
returns-then-by_object-saturating_mul-clause-short c =
    let f = triples_view c.args.listed.now.indexed.triples in
    let product : c.from-pair.result * (1 + length c.pairs_of-rest.result.now)
    ≡ pair_search_cost f * (1 + length (positions_of f.array_y c.args.predicate)) =
    ap (λ k. k * (1 + length c.pairs_of-rest.result.now)) (c.from-pair.ensures ∙ c.pair_search_cost.ensures)
    ∙ ap (λ qs. pair_search_cost f * (1 + length qs)) c.pairs_of-rest.ensures.is in
    omega (
      arith,
      shorter c.find.result,
      c.find.ensures.few,
      c.if-by_object-saturating_mul.true,
      c.saturating_mul.ensures,
      product,
      ap length c.positions_of-places.ensures.is,
      object_count f c.args.object,
    )

pub invariant_of-result : goal.invariant_of-result
unfolding step_bound object_cost
invariant_of-result c =
    let f = triples_view c.args.listed.now.indexed.triples in
    let product : c.from-pair.result * (1 + length c.pairs_of-rest.result.now)
    ≡ pair_search_cost f * (1 + length (positions_of f.array_y c.args.predicate)) =
    ap (λ k. k * (1 + length c.pairs_of-rest.result.now)) (c.from-pair.ensures ∙ c.pair_search_cost.ensures)
    ∙ ap (λ qs. pair_search_cost f * (1 + length qs)) c.pairs_of-rest.ensures.is in
    let few : pair_search_cost f * (1 + length (positions_of f.array_y c.args.predicate))
    ≤ step_bound (object_cost c.args.object) f =
    omega (
      arith,
      c.if-by_object-saturating_mul.false,
      c.saturating_mul.ensures,
      product,
      ap length c.positions_of-places.ensures.is,
      object_count f c.args.object,
      matches_fit (of_object c.args.object) c.args.listed.now.indexed.triples,
    ) in
    record {
      free = c.requires.free;
      predicate_given = c.requires.predicate_given;
      object_given = c.requires.object_given;
      between = between_first f c.args.predicate c.pairs_of-rest.result.now c.pairs_of-rest.ensures.is;
      short = omega (
        arith,
        c.new-steps.ensures,
        c.pairs_of-rest.ensures.cost,
        c.positions_of-places.ensures.cost,
        look_is f,
        ap (λ qs. pair_search_cost f * length qs) c.pairs_of-rest.ensures.is,
      );
      few = few;
    }

pub returns-clause-items : goal.returns-clause-items
unfolding remaining_matches
returns-clause-items c = ap (matches c.args.pattern) (from_start (triples_view c.args.listed.now.indexed.triples))

pub returns-clause-fits : goal.returns-clause-fits
unfolding remaining_matches
returns-clause-fits c = omega (
  arith,
  ap length (returns-clause-items c),
  matches_fit c.args.pattern c.args.listed.now.indexed.triples,
)
