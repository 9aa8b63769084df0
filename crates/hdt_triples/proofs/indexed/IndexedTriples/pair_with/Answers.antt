use Rattle.std.proofs.Common.{arith, Some, ◌-◌, ap, ◌∙◌, length, slice_index}
use Rattle.hdt_seq.specs.Laws.Width.{digits_mono}
use Rattle.hdt_triples.specs.Views.{triples_view}
use Rattle.hdt_triples.proofs.RunLaws.{only_found, pairs_ascend}
use Rattle.hdt_triples.proofs.AscentLaws.{ascend_all}
use Rattle.hdt_triples.proofs.indexed.IndexedTriples.pair_with.Goals as goal
use Rattle.hdt_triples.proofs.indexed.IndexedTriples.pair_with.Goals.{else-pair-high-via-then-pair-high+else-read_entry-predicate}
use Rattle.hdt_triples.proofs.indexed.IndexedTriples.pair_with.Goals.{else-pair-high-via-else-pair-high}

pub returns-then-read_entry-predicate-clause-cost : goal.returns-then-read_entry-predicate-clause-cost
unfolding triples_view
returns-then-read_entry-predicate-clause-cost c =
    let pairs = c.pairs_of_subject-low.ensures.are in
    let r = c.pairs_of_subject-low.result in
    omega (
      arith,
      c.read_entry.ensures.cost,
      c.lower_bound_in-pair.ensures.cost,
      c.pairs_of_subject-low.ensures.cost,
      digits_mono (r.1 - r.0) (length (triples_view c.args.self.now.triples).array_y) (omega (arith, pairs.within)),
    )

pub returns-clause-only : goal.returns-clause-only
unfolding triples_view
returns-clause-only c = λ q is.
    let t = c.args.self.now.triples in
    let f = triples_view t in
    let pairs = c.pairs_of_subject-low.ensures.are in
    let r = c.pairs_of_subject-low.result in
    let e = c.lower_bound_in-pair.ensures in
    let same = only_found f c.args.subject c.args.predicate r.0 r.1 c.lower_bound_in-pair.result q
    (ascend_all t.counts (triples_view t) t.valid) pairs e.low e.high e.below e.above is in
    elim c.else-pair-high.branch [
      | else-pair-high-via-then-pair-high+else-read_entry-predicate w ↦ absurd
          (w.if-read_entry-predicate.false (w.read_entry.ensures.is ∙ ap (slice_index f.array_y) same ∙ is.2))
      | else-pair-high-via-else-pair-high w ↦ absurd (omega (arith, w.if-pair-high.false, same, pairs.to q is.0 is.1))
    ]

pub returns-clause-cost : goal.returns-clause-cost
unfolding triples_view
returns-clause-cost c =
    let pairs = c.pairs_of_subject-low.ensures.are in
    let r = c.pairs_of_subject-low.result in
    let few = digits_mono (r.1 - r.0) (length (triples_view c.args.self.now.triples).array_y)
    (omega (arith, pairs.within)) in
    elim c.else-pair-high.branch [
      | else-pair-high-via-then-pair-high+else-read_entry-predicate w ↦ omega (
        arith,
        w.steps-is,
        w.read_entry.ensures.cost,
        c.lower_bound_in-pair.ensures.cost,
        c.pairs_of_subject-low.ensures.cost,
        few,
      )
      | else-pair-high-via-else-pair-high w ↦ omega (
        arith,
        w.steps-is,
        c.lower_bound_in-pair.ensures.cost,
        c.pairs_of_subject-low.ensures.cost,
        few,
      )
    ]

pub lower_bound_in-pair-requires-clause-ascend : goal.lower_bound_in-pair-requires-clause-ascend
unfolding triples_view
lower_bound_in-pair-requires-clause-ascend c =
    let t = c.args.self.now.triples in
    let r = c.pairs_of_subject-low.result in
    pairs_ascend (triples_view t) c.args.subject r.0 r.1
    (ascend_all t.counts (triples_view t) t.valid) c.pairs_of_subject-low.ensures.are

pub returns-then-read_entry-predicate-clause-only : goal.returns-then-read_entry-predicate-clause-only
unfolding triples_view
returns-then-read_entry-predicate-clause-only c = λ q is.
    let t = c.args.self.now.triples in
    let r = c.pairs_of_subject-low.result in
    let e = c.lower_bound_in-pair.ensures in
    ap Some (only_found (triples_view t) c.args.subject c.args.predicate r.0 r.1 c.lower_bound_in-pair.result q
    (ascend_all t.counts (triples_view t) t.valid) c.pairs_of_subject-low.ensures.are e.low e.high e.below e.above
    is)
