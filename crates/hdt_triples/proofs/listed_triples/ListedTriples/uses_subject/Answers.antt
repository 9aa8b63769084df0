use Rattle.hdt_triples.specs.Views.{triples_view}
use Rattle.std.proofs.Common.{◌∙◌, ap, leb, arith}
use Rattle.hdt_triples.proofs.UsesLaws.{subject_is, no_subject}
use Rattle.hdt_triples.proofs.listed_triples.ListedTriples.uses_subject.Goals as goal

pub returns-then-subject-ge1-clause-is : goal.returns-then-subject-ge1-clause-is
unfolding triples_view
returns-then-subject-ge1-clause-is c =
    let t = c.args.self.now.indexed.triples in
    ap (leb c.args.subject) c.subjects.ensures.is
    ∙ subject_is (triples_view t) c.args.subject t.valid.marked c.if-subject-ge1.true

pub returns-else-subject-ge1-clause-is : goal.returns-else-subject-ge1-clause-is
returns-else-subject-ge1-clause-is c =
    no_subject (triples_view c.args.self.now.indexed.triples) c.args.subject (omega (arith, c.if-subject-ge1.false))
