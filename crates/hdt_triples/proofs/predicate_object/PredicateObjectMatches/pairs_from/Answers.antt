use Rattle.std.proofs.Common.{arith, ap, ◌<◌, ◌∙◌, ◌≤◌, ◌+◌, length}
use Rattle.hdt_seq.specs.Laws.Numbers.{numbers_below}
use Rattle.hdt_triples.specs.Views.{triples_view}
use Rattle.hdt_triples.specs.TripleSequences.{pair_of}
use Rattle.hdt_triples.specs.Laws.Order.{pair_within}
use Rattle.hdt_triples.proofs.PositionListLaws.{list_ascends}
use Rattle.hdt_triples.proofs.StartLaws.{before_next_pair, before_pair, pair_left, pair_passed, positions_left}
use Rattle.hdt_triples.proofs.predicate_object.PredicateObjectMatches.pairs_from.Goals as goal
use Rattle.hdt_triples.proofs.predicate_object.PredicateObjectMatches.pairs_from.Goals.{else-from-here-via-then-from-here+else-here-end}
use Rattle.hdt_triples.proofs.predicate_object.PredicateObjectMatches.pairs_from.Goals.{else-from-here-via-else-from-here}

pub object_in_pair-here-requires : goal.object_in_pair-here-requires
unfolding triples_view
object_in_pair-here-requires c =
    let t = c.args.indexed.now.triples in
    let e = c.position_at-pair.ensures in
    omega (
      arith,
      e.positioned.pair_is,
      ap (pair_of (triples_view t)) e.at,
      pair_within (triples_view t) t.valid.marked c.args.from c.requires.within,
    )

pub lower_bound-next-requires : goal.lower_bound-next-requires
lower_bound-next-requires c =
    record {
      ascend = list_ascends (triples_view c.args.indexed.now.triples).array_y c.args.pairs.now c.args.predicate
          c.requires.pairs;
    }

pub start_of_pair-requires : goal.start_of_pair-requires
unfolding triples_view
start_of_pair-requires c =
    let t = c.args.indexed.now.triples in
    let e = c.position_at-pair.ensures in
    omega (
      arith,
      e.positioned.pair_is,
      ap (pair_of (triples_view t)) e.at,
      pair_within (triples_view t) t.valid.marked c.args.from c.requires.within,
    )

pub returns-then-here-end-clause-between : goal.returns-then-here-end-clause-between
unfolding triples_view
returns-then-here-end-clause-between c =
    let t = c.args.indexed.now.triples in
    let f = triples_view t in
    let e = c.position_at-pair.ensures in
    let q = c.position_at-pair.result.pair in
    let b = c.lower_bound-next.ensures in
    let d = c.start_of_pair.ensures in
    let within : q < length f.array_y =
    omega (
      arith,
      e.positioned.pair_is,
      ap (pair_of f) e.at,
      pair_within f t.valid.marked c.args.from c.requires.within,
    ) in
    before_pair f c.args.predicate q c.start_of_pair.result c.split_at.result.1.now d.within d.is d.earlier
    (c.split_at.ensures.back ∙ positions_left f.array_y c.args.pairs.now c.args.predicate q c.lower_bound-next.result
    c.requires.pairs (omega (arith, within)) b.high b.below b.above)

pub returns-then-here-end-clause-left : goal.returns-then-here-end-clause-left
unfolding triples_view
returns-then-here-end-clause-left c = λ p given.
    let f = triples_view c.args.indexed.now.triples in
    let e = c.position_at-pair.ensures in
    let r = c.object_in_pair-here.result in
    let d = c.start_of_pair.ensures in
    pair_left p f c.position_at-pair.result.pair c.args.object r.0 r.1 c.start_of_pair.result c.args.from given
    c.object_in_pair-here.ensures.is (e.positioned.pair_is
    ∙ ap (pair_of f) e.at) d.is d.earlier (omega (arith, c.if-from-here.true)) (omega (arith, c.if-here-end.true))
    (omega (arith, c.requires.within))

pub overflow_add-pair : goal.overflow_add-pair
unfolding triples_view
overflow_add-pair c =
    let t = c.args.indexed.now.triples in
    let e = c.position_at-pair.ensures in
    omega (
      arith,
      numbers_below t.array_y,
      e.positioned.pair_is,
      ap (pair_of (triples_view t)) e.at,
      pair_within (triples_view t) t.valid.marked c.args.from c.requires.within,
    )

pub lower_bound-next-requires-2 : goal.lower_bound-next-requires-2
lower_bound-next-requires-2 c =
    record {
      ascend = list_ascends (triples_view c.args.indexed.now.triples).array_y c.args.pairs.now c.args.predicate
          c.requires.pairs;
    }

pub returns-clause-between : goal.returns-clause-between
unfolding triples_view
returns-clause-between c =
    let t = c.args.indexed.now.triples in
    let f = triples_view t in
    let e = c.position_at-pair.ensures in
    let q = c.position_at-pair.result.pair in
    let b = c.lower_bound-next-2.ensures in
    let s = c.object_in_pair-here.ensures.is in
    let within : q < length f.array_y =
    omega (
      arith,
      e.positioned.pair_is,
      ap (pair_of f) e.at,
      pair_within f t.valid.marked c.args.from c.requires.within,
    ) in
    before_next_pair f c.args.predicate q c.object_in_pair-here.result.1 c.split_at-2.result.1.now s.triple_range.within
    s.triple_range.ends s.triple_range.to
    (c.split_at-2.ensures.back
    ∙ positions_left f.array_y c.args.pairs.now c.args.predicate
    (q + 1) c.lower_bound-next-2.result c.requires.pairs (omega (arith, within)) b.high b.below b.above)

pub returns-clause-left : goal.returns-clause-left
unfolding triples_view
returns-clause-left c = λ p given.
    let f = triples_view c.args.indexed.now.triples in
    let e = c.position_at-pair.ensures in
    let r = c.object_in_pair-here.result in
    let none : c.args.from ≤ r.0 → r.1 ≤ r.0 =
    elim c.else-from-here.branch [
      | else-from-here-via-then-from-here+else-here-end w ↦ (λ l. omega (arith, w.if-here-end.false))
      | else-from-here-via-else-from-here w ↦ (λ l. absurd (omega (arith, w.if-from-here.false, l)))
    ] in
    pair_passed p f c.position_at-pair.result.pair c.args.object r.0 r.1 c.args.from given
    c.object_in_pair-here.ensures.is (e.positioned.pair_is ∙ ap (pair_of f) e.at) none
