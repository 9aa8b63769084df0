use Rattle.std.proofs.Common.{◌∙◌, sym, ap, arith, ◌<◌, length, refl, slice_index}
use Rattle.hdt_triples.specs.Views.{triples_view}
use Rattle.hdt_triples.specs.Laws.Order.{pair_within}
use Rattle.hdt_triples.proofs.PositionListLaws.{held_at, list_ascends, next_is_first, none_after}
use Rattle.hdt_triples.proofs.SubjectObjectLaws.{later_subject}
use Rattle.hdt_triples.proofs.subject_object.SubjectObjectMatches.next_with_object.Goals as goal

pub lower_bound-next-requires : goal.lower_bound-next-requires
lower_bound-next-requires c =
    record {
      ascend = list_ascends (triples_view c.args.indexed.now.triples).array_z c.args.places.now c.args.object
          c.requires.places;
    }

pub returns-then-next-places-clause-none : goal.returns-then-next-places-clause-none
returns-then-next-places-clause-none c = λ e i l h own same.
    none_after (triples_view c.args.indexed.now.triples).array_z c.args.places.now c.args.object c.args.from
    c.lower_bound-next.result i c.requires.places c.if-next-places.true c.lower_bound-next.ensures.below l h own

pub rank-pair-requires-clause-within : goal.rank-pair-requires-clause-within
unfolding triples_view
rank-pair-requires-clause-within c =
    let t = c.args.indexed.now.triples in
    let position = held_at (triples_view t).array_z c.args.places.now c.args.object c.lower_bound-next.result
    c.requires.places c.if-next-places.false in
    omega (arith, c.read_list-at.ensures.is, position.0, t.valid.marked.triples)

pub subject_of_pair-found-requires : goal.subject_of_pair-found-requires
unfolding triples_view
subject_of_pair-found-requires c =
    let t = c.args.indexed.now.triples in
    let f = triples_view t in
    let position = held_at f.array_z c.args.places.now c.args.object c.lower_bound-next.result c.requires.places
    c.if-next-places.false in
    let within : c.read_list-at.result < length f.array_z = omega (arith, c.read_list-at.ensures.is, position.0) in
    omega (arith, c.rank-pair.ensures.is, pair_within f t.valid.marked c.read_list-at.result within)

pub returns-then-found-subject-clause-none : goal.returns-then-found-subject-clause-none
unfolding triples_view
returns-then-found-subject-clause-none c = λ e i l h own.
    let f = triples_view c.args.indexed.now.triples in
    let first = next_is_first f.array_z c.args.places.now c.args.object c.args.from c.lower_bound-next.result i
    c.requires.places c.lower_bound-next.ensures.below l h own in
    later_subject f c.args.subject c.args.from c.read_list-at.result c.rank-pair.result c.subject_of_pair-found.result i
    c.requires.reached (omega (
      arith,
      c.read_list-at.ensures.is,
      c.lower_bound-next.ensures.above c.lower_bound-next.result (omega arith) c.if-next-places.false,
    ))
    c.rank-pair.ensures.is c.subject_of_pair-found.ensures.is c.if-found-subject.true
    (omega (arith, c.read_list-at.ensures.is, first))

pub returns-clause-found : goal.returns-clause-found
unfolding triples_view
returns-clause-found c =
    let f = triples_view c.args.indexed.now.triples in
    let at = c.read_list-at.ensures.is in
    let position = held_at f.array_z c.args.places.now c.args.object c.lower_bound-next.result c.requires.places
    c.if-next-places.false in
    record {
      positioned = record {
        within = omega (arith, at, position.0);
        pair_is = c.rank-pair.ensures.is;
        subject_is = sym (c.if-found-subject.false) ∙ c.subject_of_pair-found.ensures.is;
      };
      later = omega (
        arith,
        at,
        c.lower_bound-next.ensures.above c.lower_bound-next.result (omega arith) c.if-next-places.false,
      );
      within = omega (arith, at, position.0);
      own = refl;
      object = ap (slice_index f.array_z) at ∙ position.1;
      first = λ i l w own.
          omega (
            arith,
            at,
            w,
            next_is_first f.array_z c.args.places.now c.args.object c.args.from
                c.lower_bound-next.result i c.requires.places c.lower_bound-next.ensures.below l
                (omega (arith, w, at, position.0)) own,
          );
    }
