use Rattle.std.proofs.Common.{arith, sym, subst, map, ap, ◌∙◌, length}
use Rattle.std.specs.List.{All}
use Rattle.hdt_triples.specs.Bounds.{IsWithinBudget, object_cost}
use Rattle.hdt_triples.specs.TripleSequences.{triple_at}
use Rattle.hdt_triples.specs.InvertedIndex.{IsPositionOf}
use Rattle.hdt_triples.specs.Patterns.{matches}
use Rattle.hdt_triples.specs.Views.{triples_view}
use Rattle.hdt_triples.specs.Remaining.{remaining_matches}
use Rattle.hdt_triples.proofs.ObjectLaws.{among_positions, object_law, object_budget_first}
use Rattle.hdt_triples.proofs.ScanLaws.{matches_fit}
use Rattle.hdt_triples.proofs.object.ObjectMatches.find.Goals as goal

pub invariant_of-result : goal.invariant_of-result
invariant_of-result c =
    let f = triples_view c.args.listed.now.indexed.triples in
    let is = sym c.positions_of-rest.ensures.is in
    record {
      given = c.requires.given;
      among = subst (All (IsPositionOf f.array_z c.args.object)) is (among_positions f.array_z c.args.object);
      few = subst (λ js. IsWithinBudget (object_cost c.args.object) f c.positions_of-rest.new.steps
          (map (triple_at f) js)) is
          (object_budget_first f c.args.object c.positions_of-rest.new.steps
          (omega (arith, c.positions_of-rest.ensures.cost, c.requires.few)));
    }

pub returns-clause-items : goal.returns-clause-items
unfolding remaining_matches
returns-clause-items c =
    let f = triples_view c.args.listed.now.indexed.triples in
    ap (λ js. matches c.args.pattern (map (triple_at f) js)) c.positions_of-rest.ensures.is
    ∙ object_law c.args.pattern f c.args.object c.requires.given

pub returns-clause-fits : goal.returns-clause-fits
unfolding remaining_matches
returns-clause-fits c = omega (
  arith,
  ap length (returns-clause-items c),
  matches_fit c.args.pattern c.args.listed.now.indexed.triples,
)
