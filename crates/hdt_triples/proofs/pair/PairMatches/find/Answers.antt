use Rattle.std.proofs.Common.{arith, ap, length}
use Rattle.hdt_triples.specs.Views.{triples_view}
use Rattle.hdt_triples.specs.Remaining.{remaining_matches}
use Rattle.hdt_triples.proofs.RunLaws.{run_items, run_budget_first}
use Rattle.hdt_triples.proofs.ScanLaws.{matches_fit}
use Rattle.hdt_triples.proofs.pair.PairMatches.find.Goals as goal

pub invariant_of-result : goal.invariant_of-result
invariant_of-result c =
    let f = triples_view c.args.indexed.now.triples in
    let e = c.match_range-at.ensures in
    let r = c.match_range-at.result in
    record {
      run = e.run;
      few =
          run_budget_first f c.args.pattern c.args.subject c.args.predicate r.0 r.1 c.match_range-at.new.steps e.run
          e.before (omega (arith, e.cost, c.new-steps.ensures));
    }

pub returns-clause-items : goal.returns-clause-items
unfolding remaining_matches
returns-clause-items c =
    let e = c.match_range-at.ensures in
    let r = c.match_range-at.result in
    run_items (triples_view c.args.indexed.now.triples) c.args.pattern c.args.subject c.args.predicate r.0 r.1 e.run
    e.before

pub returns-clause-fits : goal.returns-clause-fits
unfolding remaining_matches
returns-clause-fits c = omega (
  arith,
  ap length (returns-clause-items c),
  matches_fit c.args.pattern c.args.indexed.now.triples,
)
