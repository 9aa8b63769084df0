use Rattle.std.proofs.Common.{arith, sym, ap, length}
use Rattle.hdt_triples.specs.Bounds.{list_search_cost}
use Rattle.hdt_triples.specs.Views.{triples_view}
use Rattle.hdt_triples.specs.Remaining.{remaining_matches}
use Rattle.hdt_triples.proofs.SubjectLaws.{matches_skipped}
use Rattle.hdt_triples.proofs.SubjectObjectLaws.{first_goes, first_pays, first_price, first_short}
use Rattle.hdt_triples.proofs.ScanLaws.{matches_fit}
use Rattle.hdt_triples.proofs.subject_object.SubjectObjectMatches.find.Goals as goal

pub invariant_of-result : goal.invariant_of-result
invariant_of-result c =
    let f = triples_view c.args.listed.now.indexed.triples in
    let e = c.start_of_subject-position.ensures in
    let skipped = matches_skipped c.args.pattern c.args.subject f c.start_of_subject-position.result.at
    c.requires.subject_given e.positioned.within e.before in
    record {
      subject_given = c.requires.subject_given;
      predicate_free = c.requires.predicate_free;
      object_given = c.requires.object_given;
      places_are = c.positions_of-places.ensures.is;
      price_is = first_price f c.args.object c.digits_of.result c.positions_of-places.result.now
          c.positions_of-places.ensures.is c.digits_of.ensures.is;
      positioned = λ h. e.positioned;
      reached = e.reached;
      room = omega arith;
      few = first_pays c.args.subject f c.start_of_subject-position.result.at c.positions_of-places.new.steps
          e.positioned.within e.before (omega (arith, e.cost, c.positions_of-places.ensures.cost, c.new-steps.ensures));
      goes = λ h. first_goes f (list_search_cost f c.args.object) c.positions_of-places.new.steps _ _
          (omega (arith, e.cost, c.positions_of-places.ensures.cost, c.new-steps.ensures)) (sym (ap length skipped));
      short = first_short f (list_search_cost f c.args.object) c.positions_of-places.new.steps _
          (omega (arith, e.cost, c.positions_of-places.ensures.cost, c.new-steps.ensures));
    }

pub returns-clause-items : goal.returns-clause-items
unfolding remaining_matches
returns-clause-items c =
    let e = c.start_of_subject-position.ensures in
    sym (matches_skipped c.args.pattern c.args.subject
    (triples_view c.args.listed.now.indexed.triples) c.start_of_subject-position.result.at c.requires.subject_given
    e.positioned.within e.before)

pub returns-clause-fits : goal.returns-clause-fits
unfolding remaining_matches
returns-clause-fits c = omega (
  arith,
  ap length (returns-clause-items c),
  matches_fit c.args.pattern c.args.listed.now.indexed.triples,
)
