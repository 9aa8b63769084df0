use Rattle.std.proofs.Common.{arith}
use Rattle.hdt_triples.specs.Views.{triples_view}
use Rattle.hdt_triples.proofs.StartLaws.{still_reached}
use Rattle.hdt_triples.proofs.indexed.IndexedTriples.start_of_subject_from.Goals as goal

pub returns-clause-reached : goal.returns-clause-reached
returns-clause-reached c = λ h.
    still_reached (triples_view c.args.self.now.triples) c.args.subject c.start_of_subject-start.result
    c.position_at.result c.start_of_subject-start.ensures.positioned c.position_at.ensures.positioned
    (omega (arith, c.position_at.ensures.at, c.if-from-start.false)) h c.start_of_subject-start.ensures.reached
