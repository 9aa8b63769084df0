use Rattle.std.proofs.Common.{arith, ap, sym, subst, refl, length}
use Rattle.std.specs.List.{All}
use Rattle.std.proofs.lemmas.List.{length-drop}
use Rattle.std.proofs.lemmas.List.Elements.{All-drop}
use Rattle.hdt_triples.specs.Bounds.{of_object}
use Rattle.hdt_triples.specs.InvertedIndex.{IsPositionOf}
use Rattle.hdt_triples.specs.Patterns.{matches}
use Rattle.hdt_triples.specs.TripleSequences.{triples_of}
use Rattle.hdt_triples.specs.Views.{triples_view}
use Rattle.hdt_triples.specs.Remaining.{remaining_matches}
use Rattle.hdt_triples.proofs.ObjectLaws.{among_positions, object_after, object_after_budget}
use Rattle.hdt_triples.proofs.ScanLaws.{matches_fit}
use Rattle.hdt_triples.proofs.object.ObjectMatches.find_after.Goals as goal

pub invariant_of-result : goal.invariant_of-result
invariant_of-result c =
    let f = triples_view c.args.listed.now.indexed.triples in
    let places = c.positions_of-places.result.now in
    let is = c.positions_of-places.ensures.is in
    record {
      given = refl;
      among = subst (All (IsPositionOf f.array_z c.args.object)) (sym c.split_at.ensures.back)
          (All-drop (IsPositionOf f.array_z c.args.object) c.min-next.result places
          (subst (All (IsPositionOf f.array_z c.args.object)) (sym is) (among_positions f.array_z c.args.object)));
      few = object_after_budget f c.args.object c.args.skip c.min-next.result c.new.result places
          c.split_at.result.1.now is c.min-next.ensures c.split_at.ensures.back c.new.ensures;
    }

pub returns-clause-items : goal.returns-clause-items
unfolding remaining_matches
returns-clause-items c =
    object_after (triples_view c.args.listed.now.indexed.triples) c.args.object c.args.skip c.min-next.result
    c.positions_of-places.result.now c.split_at.result.1.now c.positions_of-places.ensures.is c.min-next.ensures
    c.split_at.ensures.back

pub returns-clause-fits : goal.returns-clause-fits
unfolding remaining_matches
returns-clause-fits c =
    let t = c.args.listed.now.indexed.triples in
    omega (
      arith,
      ap length (returns-clause-items c),
      length-drop c.args.skip (matches (of_object c.args.object) (triples_of (triples_view t))),
      matches_fit (of_object c.args.object) t,
    )
