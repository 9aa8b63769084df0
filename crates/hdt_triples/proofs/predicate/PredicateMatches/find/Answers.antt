use Rattle.std.proofs.Common.{arith, ◌≡◌, true, false, ap, length}
use Rattle.hdt_triples.specs.Views.{triples_view}
use Rattle.hdt_triples.proofs.PredicateLaws.{between_first, predicate_budget_first}
use Rattle.hdt_triples.proofs.ScanLaws.{from_start, matches_fit}
use Rattle.hdt_triples.specs.Remaining.{remaining_matches}
use Rattle.hdt_triples.specs.Bounds.{of_predicate}
use Rattle.hdt_triples.specs.Patterns.{matches}
use Rattle.hdt_triples.proofs.predicate.PredicateMatches.find.Goals as goal

pub invariant_of-result : goal.invariant_of-result
invariant_of-result c =
    let f = triples_view c.args.listed.now.indexed.triples in
    record {
      positioned = record {
        between =
            λ u. between_first f c.args.predicate c.pairs_of-rest.result.now c.pairs_of-rest.ensures.is;
        inside =
            λ u. let no : false ≡ true = u in absurd (cc);
      };
      few = predicate_budget_first f c.args.predicate c.pairs_of-rest.new.steps
          (omega (arith, c.pairs_of-rest.ensures.cost, c.new-steps.ensures));
    }

pub returns-clause-items : goal.returns-clause-items
unfolding remaining_matches
returns-clause-items c = ap (matches (of_predicate c.args.predicate))
    (from_start (triples_view c.args.listed.now.indexed.triples))

pub returns-clause-fits : goal.returns-clause-fits
unfolding remaining_matches
returns-clause-fits c = omega (
  arith,
  ap length (returns-clause-items c),
  matches_fit (of_predicate c.args.predicate) c.args.listed.now.indexed.triples,
)
