use Rattle.hdt_triples.specs.Views.{triples_view}
use Rattle.hdt_triples.specs.Remaining.{remaining_matches}
use Rattle.hdt_triples.specs.Bounds.{subject_cost}
use Rattle.hdt_triples.proofs.StartLaws.{subject_left, within_budget}
use Rattle.hdt_triples.proofs.subject.SubjectMatches.find_from.Goals as goal

pub invariant_of-result : goal.invariant_of-result
invariant_of-result c =
    let f = triples_view c.args.indexed.now.triples in
    let e = c.start_of_subject_from-position.ensures in
    record {
      given = c.requires.given;
      positioned = e.positioned;
      reached = e.reached;
      few = within_budget (subject_cost f c.args.subject) f c.start_of_subject_from-position.result.at c.new.result
          e.positioned.within c.new.ensures;
    }

pub returns-clause-items : goal.returns-clause-items
unfolding remaining_matches
returns-clause-items c =
    let e = c.start_of_subject_from-position.ensures in
    subject_left c.args.pattern c.args.subject
    (triples_view c.args.indexed.now.triples) c.args.from c.start_of_subject_from-position.result.at
    c.requires.given e.later e.positioned.within e.before
