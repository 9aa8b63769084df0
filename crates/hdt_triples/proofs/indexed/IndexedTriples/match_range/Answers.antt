use Rattle.std.proofs.Common.{arith, ◌-◌, sym, ◌∙◌, length}
use Rattle.std.proofs.lemmas.Option.{none-some}
use Rattle.hdt_seq.specs.Laws.Width.{digits_mono}
use Rattle.hdt_triples.specs.Views.{triples_view}
use Rattle.hdt_triples.proofs.RunLaws.{no_run, pair_run, whole_run, before_run, objects_ascend, one_run, one_before}
use Rattle.hdt_triples.proofs.RunLaws.{none_run, not_there}
use Rattle.hdt_triples.proofs.AscentLaws.{ascend_all}
use Rattle.hdt_triples.proofs.indexed.IndexedTriples.match_range.Goals as goal
use Rattle.hdt_triples.proofs.indexed.IndexedTriples.match_range.Goals.{else-position-end-via-then-position-end+else-read_entry-object}
use Rattle.hdt_triples.proofs.indexed.IndexedTriples.match_range.Goals.{else-position-end-via-else-position-end}

pub returns-in_default-clause-run : goal.returns-in_default-clause-run
unfolding triples_view
returns-in_default-clause-run c =
    let t = c.args.self.now.triples in
    no_run (triples_view t) c.args.pattern c.args.subject c.args.predicate t.valid.marked c.requires.subject_given
    c.requires.predicate_given
    (λ q h. none-some q (sym c.in_default.is ∙ c.pair_with.ensures.only q h))

pub returns-in_default-o-clause-run : goal.returns-in_default-o-clause-run
unfolding triples_view
returns-in_default-o-clause-run c =
    let t = c.args.self.now.triples in
    let e = c.start_of_pair-at.ensures in
    let d = c.end_of_pair-end.ensures in
    let r = pair_run (triples_view t) c.args.subject c.args.predicate c.in-Some.pair c.start_of_pair-at.result
    c.end_of_pair-end.result c.in-Some.ensures.found c.in-Some.ensures.only e.within e.is e.earlier d.within d.below
    d.above in
    whole_run (triples_view t) c.args.pattern c.args.subject c.args.predicate c.in-Some.pair _ _ t.valid.marked
    c.requires.subject_given c.requires.predicate_given c.in_default-o.is r

pub lower_bound_in-position-requires-clause-ascend : goal.lower_bound_in-position-requires-clause-ascend
unfolding triples_view
lower_bound_in-position-requires-clause-ascend c =
    let t = c.args.self.now.triples in
    let e = c.start_of_pair-at.ensures in
    let d = c.end_of_pair-end.ensures in
    let r = pair_run (triples_view t) c.args.subject c.args.predicate c.in-Some.pair c.start_of_pair-at.result
    c.end_of_pair-end.result c.in-Some.ensures.found c.in-Some.ensures.only e.within e.is e.earlier d.within d.below
    d.above in
    objects_ascend (triples_view t) c.args.subject c.args.predicate c.in-Some.pair _ _
    (ascend_all t.counts (triples_view t) t.valid) r

pub returns-then-read_entry-object-clause-run : goal.returns-then-read_entry-object-clause-run
unfolding triples_view
returns-then-read_entry-object-clause-run c =
    let t = c.args.self.now.triples in
    let e = c.start_of_pair-at.ensures in
    let d = c.end_of_pair-end.ensures in
    let r = pair_run (triples_view t) c.args.subject c.args.predicate c.in-Some.pair c.start_of_pair-at.result
    c.end_of_pair-end.result c.in-Some.ensures.found c.in-Some.ensures.only e.within e.is e.earlier d.within d.below
    d.above in
    one_run (triples_view t) c.args.pattern c.args.subject c.args.predicate c.in-Some-o.object c.in-Some.pair _ _
    c.lower_bound_in-position.result t.valid.marked
    (ascend_all t.counts (triples_view t) t.valid) c.requires.subject_given c.requires.predicate_given
    c.in-Some-o.is r
    c.lower_bound_in-position.ensures.low c.if-position-end.true (sym c.read_entry.ensures.is
    ∙ c.if-read_entry-object.true)

pub returns-then-read_entry-object-clause-before : goal.returns-then-read_entry-object-clause-before
unfolding triples_view
returns-then-read_entry-object-clause-before c = λ i h.
    let t = c.args.self.now.triples in
    let e = c.start_of_pair-at.ensures in
    let d = c.end_of_pair-end.ensures in
    let r = pair_run (triples_view t) c.args.subject c.args.predicate c.in-Some.pair c.start_of_pair-at.result
    c.end_of_pair-end.result c.in-Some.ensures.found c.in-Some.ensures.only e.within e.is e.earlier d.within d.below
    d.above in
    one_before (triples_view t) c.args.pattern c.args.subject c.args.predicate c.in-Some-o.object c.in-Some.pair _ _
    c.lower_bound_in-position.result i t.valid.marked c.requires.subject_given c.requires.predicate_given
    c.in-Some-o.is r
    c.if-position-end.true c.lower_bound_in-position.ensures.below h

pub returns-in_default-o-clause-before : goal.returns-in_default-o-clause-before
unfolding triples_view
returns-in_default-o-clause-before c = λ i h.
    let t = c.args.self.now.triples in
    let e = c.start_of_pair-at.ensures in
    let d = c.end_of_pair-end.ensures in
    let r = pair_run (triples_view t) c.args.subject c.args.predicate c.in-Some.pair c.start_of_pair-at.result
    c.end_of_pair-end.result c.in-Some.ensures.found c.in-Some.ensures.only e.within e.is e.earlier d.within d.below
    d.above in
    before_run (triples_view t) c.args.pattern c.args.subject c.args.predicate c.in-Some.pair _ _ i t.valid.marked
    c.requires.subject_given c.requires.predicate_given r h

pub returns-then-read_entry-object-clause-cost : goal.returns-then-read_entry-object-clause-cost
unfolding triples_view
returns-then-read_entry-object-clause-cost c =
    let few = digits_mono (c.end_of_pair-end.result - c.start_of_pair-at.result)
    (length (triples_view c.args.self.now.triples).array_z) (omega (arith, c.end_of_pair-end.ensures.within)) in
    omega (
      arith,
      c.read_entry.ensures.cost,
      c.lower_bound_in-position.ensures.cost,
      c.end_of_pair-end.ensures.cost,
      c.start_of_pair-at.ensures.cost,
      c.pair_with.ensures.cost,
      few,
    )

pub returns-clause-run : goal.returns-clause-run
unfolding triples_view
returns-clause-run c =
    let t = c.args.self.now.triples in
    let f = triples_view t in
    let e = c.start_of_pair-at.ensures in
    let d = c.end_of_pair-end.ensures in
    let p = c.lower_bound_in-position.ensures in
    let r = pair_run f c.args.subject c.args.predicate c.in-Some.pair c.start_of_pair-at.result c.end_of_pair-end.result
    c.in-Some.ensures.found c.in-Some.ensures.only e.within e.is e.earlier d.within d.below d.above in
    none_run f c.args.pattern c.args.subject c.args.predicate c.in-Some-o.object c.in-Some.pair
    c.start_of_pair-at.result c.end_of_pair-end.result t.valid.marked c.requires.subject_given
    c.requires.predicate_given c.in-Some-o.is r
    (elim c.else-position-end.branch [
      | else-position-end-via-then-position-end+else-read_entry-object w ↦ not_there f c.start_of_pair-at.result
          c.end_of_pair-end.result c.lower_bound_in-position.result c.in-Some-o.object p.below p.above
          (objects_ascend f c.args.subject c.args.predicate c.in-Some.pair _ _
          (ascend_all t.counts (triples_view t) t.valid) r) p.low
          (λ h same. w.if-read_entry-object.false (w.read_entry.ensures.is ∙ same))
      | else-position-end-via-else-position-end w ↦ not_there f c.start_of_pair-at.result c.end_of_pair-end.result
          c.lower_bound_in-position.result c.in-Some-o.object p.below p.above
          (objects_ascend f c.args.subject c.args.predicate c.in-Some.pair _ _
          (ascend_all t.counts (triples_view t) t.valid) r) p.low
          (λ h same. absurd (omega (arith, h, w.if-position-end.false)))
    ])

pub returns-clause-cost : goal.returns-clause-cost
unfolding triples_view
returns-clause-cost c =
    let few = digits_mono (c.end_of_pair-end.result - c.start_of_pair-at.result)
    (length (triples_view c.args.self.now.triples).array_z) (omega (arith, c.end_of_pair-end.ensures.within)) in
    elim c.else-position-end.branch [
      | else-position-end-via-then-position-end+else-read_entry-object w ↦ omega (
        arith,
        w.steps-is,
        w.read_entry.ensures.cost,
        c.lower_bound_in-position.ensures.cost,
        c.end_of_pair-end.ensures.cost,
        c.start_of_pair-at.ensures.cost,
        c.pair_with.ensures.cost,
        few,
      )
      | else-position-end-via-else-position-end w ↦ omega (
        arith,
        w.steps-is,
        c.lower_bound_in-position.ensures.cost,
        c.end_of_pair-end.ensures.cost,
        c.start_of_pair-at.ensures.cost,
        c.pair_with.ensures.cost,
        few,
      )
    ]
