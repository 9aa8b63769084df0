use Rattle.std.proofs.Common.{arith, ◌-◌}
use Rattle.hdt_triples.specs.Views.{triples_view}
use Rattle.hdt_triples.proofs.MatchCountLaws.{no_triples, subject_between}
use Rattle.hdt_triples.proofs.indexed.IndexedTriples.subject_range.Goals as goal

pub returns-then-low-high-clause-are : goal.returns-then-low-high-clause-are
unfolding triples_view
returns-then-low-high-clause-are c =
    let t = c.args.self.now.triples in
    let r = c.pairs_of_subject-low.result in
    no_triples (triples_view t) c.args.subject r.0 r.1 t.valid.marked c.pairs_of_subject-low.ensures.are
    c.if-low-high.true

pub returns-clause-are : goal.returns-clause-are
unfolding triples_view
returns-clause-are c =
    let t = c.args.self.now.triples in
    let r = c.pairs_of_subject-low.result in
    let pairs = c.pairs_of_subject-low.ensures.are in
    subject_between (triples_view t) c.args.subject r.0 r.1
    (r.1 - 1) c.triple_range.result.0 c.triple_range.result.1 t.valid.marked pairs
    (omega (arith, pairs.ordered, c.if-low-high.false)) c.triple_range.ensures.are
