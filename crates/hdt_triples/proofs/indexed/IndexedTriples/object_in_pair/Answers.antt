use Rattle.std.proofs.Common.{arith, sym, ◌∙◌, ◌-◌, length}
use Rattle.hdt_seq.specs.Laws.Width.{digits_mono}
use Rattle.hdt_triples.specs.Views.{triples_view}
use Rattle.hdt_triples.proofs.AscentLaws.{ascend_all}
use Rattle.hdt_triples.proofs.PredicateObjectLaws.{edges_ascend, object_found, object_missed}
use Rattle.hdt_triples.proofs.RunLaws.{not_there}
use Rattle.hdt_triples.proofs.indexed.IndexedTriples.object_in_pair.Goals as goal
use Rattle.hdt_triples.proofs.indexed.IndexedTriples.object_in_pair.Goals.{else-here-end-via-then-here-end+else-read_entry-object}
use Rattle.hdt_triples.proofs.indexed.IndexedTriples.object_in_pair.Goals.{else-here-end-via-else-here-end}

pub lower_bound_in-here-requires-clause-ascend : goal.lower_bound_in-here-requires-clause-ascend
unfolding triples_view
lower_bound_in-here-requires-clause-ascend c =
    let t = c.args.self.now.triples in
    edges_ascend (triples_view t) c.args.pair c.triple_range-at.result.0 c.triple_range-at.result.1
    (ascend_all t.counts (triples_view t) t.valid) c.triple_range-at.ensures.are

pub returns-then-read_entry-object-clause-is : goal.returns-then-read_entry-object-clause-is
unfolding triples_view
returns-then-read_entry-object-clause-is c =
    let t = c.args.self.now.triples in
    object_found (triples_view t) c.args.pair c.triple_range-at.result.0 c.triple_range-at.result.1 c.args.object
    c.lower_bound_in-here.result (ascend_all t.counts (triples_view t) t.valid) c.triple_range-at.ensures.are
    c.lower_bound_in-here.ensures.low c.if-here-end.true (sym c.read_entry.ensures.is ∙ c.if-read_entry-object.true)

pub returns-then-read_entry-object-clause-cost : goal.returns-then-read_entry-object-clause-cost
unfolding triples_view
returns-then-read_entry-object-clause-cost c =
    let few = digits_mono (c.triple_range-at.result.1 - c.triple_range-at.result.0)
    (length (triples_view c.args.self.now.triples).array_z) (omega (arith, c.triple_range-at.ensures.are.within)) in
    omega (arith, c.read_entry.ensures.cost, c.lower_bound_in-here.ensures.cost, c.triple_range-at.ensures.cost, few)

pub returns-clause-is : goal.returns-clause-is
unfolding triples_view
returns-clause-is c =
    let t = c.args.self.now.triples in
    let f = triples_view t in
    let e = c.triple_range-at in
    let p = c.lower_bound_in-here in
    let up = edges_ascend f c.args.pair e.result.0 e.result.1 (ascend_all t.counts f t.valid) e.ensures.are in
    object_missed f c.args.pair e.result.0 e.result.1 c.args.object e.ensures.are
    (elim c.else-here-end.branch [
      | else-here-end-via-then-here-end+else-read_entry-object w ↦
          not_there f e.result.0 e.result.1 p.result c.args.object p.ensures.below p.ensures.above up p.ensures.low
          (λ h same. w.if-read_entry-object.false (w.read_entry.ensures.is ∙ same))
      | else-here-end-via-else-here-end w ↦
          not_there f e.result.0 e.result.1 p.result c.args.object p.ensures.below p.ensures.above up p.ensures.low
          (λ h same. absurd (omega (arith, h, w.if-here-end.false)))
    ])

pub returns-clause-cost : goal.returns-clause-cost
unfolding triples_view
returns-clause-cost c =
    let few = digits_mono (c.triple_range-at.result.1 - c.triple_range-at.result.0)
    (length (triples_view c.args.self.now.triples).array_z) (omega (arith, c.triple_range-at.ensures.are.within)) in
    elim c.else-here-end.branch [
      | else-here-end-via-then-here-end+else-read_entry-object w ↦ omega (
        arith,
        w.steps-is,
        w.read_entry.ensures.cost,
        c.lower_bound_in-here.ensures.cost,
        c.triple_range-at.ensures.cost,
        few,
      )
      | else-here-end-via-else-here-end w ↦ omega (
        arith,
        w.steps-is,
        c.lower_bound_in-here.ensures.cost,
        c.triple_range-at.ensures.cost,
        few,
      )
    ]
