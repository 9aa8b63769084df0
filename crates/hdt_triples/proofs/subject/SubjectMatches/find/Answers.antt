use Rattle.std.proofs.Common.{arith, sym, ap, length}
use Rattle.hdt_triples.specs.Views.{triples_view}
use Rattle.hdt_triples.specs.Remaining.{remaining_matches}
use Rattle.hdt_triples.proofs.SubjectLaws.{matches_skipped, budget_first}
use Rattle.hdt_triples.proofs.ScanLaws.{matches_fit}
use Rattle.hdt_triples.proofs.subject.SubjectMatches.find.Goals as goal

pub invariant_of-result : goal.invariant_of-result
invariant_of-result c =
    let e = c.start_of_subject-position.ensures in
    record {
      given = c.requires;
      positioned = e.positioned;
      reached = e.reached;
      few = budget_first c.args.subject (triples_view c.args.indexed.now.triples) c.start_of_subject-position.result.at
          c.start_of_subject-position.new.steps e.positioned.within e.before
          (omega (arith, e.cost, c.new-steps.ensures));
    }

pub returns-clause-items : goal.returns-clause-items
unfolding remaining_matches
returns-clause-items c =
    let e = c.start_of_subject-position.ensures in
    sym (matches_skipped c.args.pattern c.args.subject
    (triples_view c.args.indexed.now.triples) c.start_of_subject-position.result.at c.requires e.positioned.within
    e.before)

pub returns-clause-fits : goal.returns-clause-fits
unfolding remaining_matches
returns-clause-fits c = omega (
  arith,
  ap length (returns-clause-items c),
  matches_fit c.args.pattern c.args.indexed.now.triples,
)
