use Rattle.std.proofs.Common.{◌∙◌, ap, sym}
use Rattle.hdt_triples.specs.TripleSequences.{triples_of}
use Rattle.hdt_triples.specs.IndexViews.{triples_listed}
use Rattle.hdt_triples.specs.Uses.{uses}
use Rattle.hdt_triples.specs.Laws.Uses.{uses_means}
use Rattle.hdt_triples.specs.Views.{triples_view}
use Rattle.hdt_triples.proofs.listed_triples.ListedTriples.uses.Goals as goal

pub returns-in-Subject-clause-exact : goal.returns-in-Subject-clause-exact
returns-in-Subject-clause-exact c =
    let ts = triples_of (triples_view (triples_listed c.args.self.now)) in
    uses_means ts c.args.role c.args.n c.uses_subject.result (c.uses_subject.ensures.is
    ∙ sym (ap (λ r. uses ts r c.args.n) c.in-Subject.is))

pub returns-in-Predicate-clause-exact : goal.returns-in-Predicate-clause-exact
returns-in-Predicate-clause-exact c =
    let ts = triples_of (triples_view (triples_listed c.args.self.now)) in
    uses_means ts c.args.role c.args.n c.uses_predicate.result (c.uses_predicate.ensures.is
    ∙ sym (ap (λ r. uses ts r c.args.n) c.in-Predicate.is))

pub returns-in-Object-clause-exact : goal.returns-in-Object-clause-exact
returns-in-Object-clause-exact c =
    let ts = triples_of (triples_view (triples_listed c.args.self.now)) in
    uses_means ts c.args.role c.args.n c.uses_object.result (c.uses_object.ensures.is
    ∙ sym (ap (λ r. uses ts r c.args.n) c.in-Object.is))
