use Rattle.std.proofs.Common.{arith, sym, subst, ◌∙◌, ◌≡◌}
use Rattle.std.specs.List.{All}
use Rattle.std.proofs.lemmas.List.Elements.{All-drop}
use Rattle.hdt_triples.specs.Views.{triples_view}
use Rattle.hdt_triples.specs.Remaining.{remaining_matches}
use Rattle.hdt_triples.specs.InvertedIndex.{IsPositionOf, positions_from}
use Rattle.hdt_triples.proofs.ObjectLaws.{among_positions, object_left}
use Rattle.hdt_triples.proofs.PositionListLaws.{list_ascends}
use Rattle.hdt_triples.proofs.StartLaws.{list_digits_few, object_budget, positions_left}
use Rattle.hdt_triples.proofs.object.ObjectMatches.find_from.Goals as goal

pub lower_bound-next-requires : goal.lower_bound-next-requires
lower_bound-next-requires c =
    record {
      ascend = list_ascends
          (triples_view c.args.listed.now.indexed.triples).array_z c.positions_of-places.result.now c.args.object
          c.positions_of-places.ensures.is;
    }

pub invariant_of-result : goal.invariant_of-result
invariant_of-result c =
    let f = triples_view c.args.listed.now.indexed.triples in
    let b = c.lower_bound-next.ensures in
    let places = c.positions_of-places.result.now in
    let is = c.positions_of-places.ensures.is in
    let rest : c.split_at.result.1.now ≡ positions_from f.array_z c.args.object c.args.from =
    c.split_at.ensures.back ∙ positions_left f.array_z places c.args.object c.args.from c.lower_bound-next.result is
    (omega (arith, c.requires.within)) b.high b.below b.above in
    record {
      given = c.requires.given;
      among = subst (All (IsPositionOf f.array_z c.args.object)) (sym c.split_at.ensures.back)
          (All-drop (IsPositionOf f.array_z c.args.object) c.lower_bound-next.result places
          (subst (All (IsPositionOf f.array_z c.args.object)) (sym is) (among_positions f.array_z c.args.object)));
      few = object_budget f c.args.object c.args.from c.new.result c.split_at.result.1.now
          (omega (arith, c.requires.within)) rest c.new.ensures;
    }

pub returns-clause-items : goal.returns-clause-items
unfolding remaining_matches
returns-clause-items c =
    let f = triples_view c.args.listed.now.indexed.triples in
    let b = c.lower_bound-next.ensures in
    object_left c.args.pattern f c.args.object c.args.from c.split_at.result.1.now c.requires.given
    (c.split_at.ensures.back ∙ positions_left f.array_z c.positions_of-places.result.now c.args.object c.args.from
    c.lower_bound-next.result c.positions_of-places.ensures.is
    (omega (arith, c.requires.within)) b.high b.below b.above)

pub returns-clause-cost : goal.returns-clause-cost
returns-clause-cost c =
    let f = triples_view c.args.listed.now.indexed.triples in
    omega (
      arith,
      c.lower_bound-next.ensures.cost,
      c.positions_of-places.ensures.cost,
      list_digits_few f.array_z c.positions_of-places.result.now c.args.object c.positions_of-places.ensures.is,
    )
