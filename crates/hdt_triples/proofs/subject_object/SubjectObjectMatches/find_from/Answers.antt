use Rattle.std.proofs.Common.{arith}
use Rattle.hdt_triples.specs.Views.{triples_view}
use Rattle.hdt_triples.specs.Remaining.{remaining_matches}
use Rattle.hdt_triples.proofs.StartLaws.{subject_left, subject_object_budget, subject_object_goes, subject_object_short}
use Rattle.hdt_triples.proofs.SubjectObjectLaws.{first_price}
use Rattle.hdt_triples.proofs.subject_object.SubjectObjectMatches.find_from.Goals as goal

pub invariant_of-result : goal.invariant_of-result
invariant_of-result c =
    let f = triples_view c.args.listed.now.indexed.triples in
    let e = c.start_of_subject_from-position.ensures in
    let at = c.start_of_subject_from-position.result.at in
    record {
      subject_given = c.requires.subject_given;
      predicate_free = c.requires.predicate_free;
      object_given = c.requires.object_given;
      places_are = c.positions_of-places.ensures.is;
      price_is = first_price f c.args.object c.digits_of.result c.positions_of-places.result.now
          c.positions_of-places.ensures.is c.digits_of.ensures.is;
      positioned = λ h. e.positioned;
      reached = e.reached;
      room = omega arith;
      few = subject_object_budget f c.args.subject at c.new.result e.positioned.within c.new.ensures;
      goes = λ h. subject_object_goes c.args.pattern f c.args.object at c.new.result e.positioned.within c.new.ensures;
      short = subject_object_short c.args.pattern f c.args.object c.new.result c.new.ensures;
    }

pub returns-clause-items : goal.returns-clause-items
unfolding remaining_matches
returns-clause-items c =
    let e = c.start_of_subject_from-position.ensures in
    subject_left c.args.pattern c.args.subject
    (triples_view c.args.listed.now.indexed.triples) c.args.from c.start_of_subject_from-position.result.at
    c.requires.subject_given e.later e.positioned.within e.before
