use Rattle.std.proofs.Common.{◌<◌, ◌∙◌, ap, arith, drop, length, map, refl, subst, sym}
use Rattle.std.proofs.lemmas.Bool.{eqb-true, eqb-false}
use Rattle.std.specs.List.{All}
use Rattle.hdt_triples.specs.TripleSequences.{triple_at}
use Rattle.hdt_triples.specs.InvertedIndex.{IsPositionOf}
use Rattle.hdt_triples.specs.Patterns.{matches}
use Rattle.hdt_triples.specs.Views.{triples_view}
use Rattle.hdt_triples.proofs.InvertedIndexLaws.{split_rest}
use Rattle.hdt_triples.proofs.MatchCountLaws.{in_object_on, object_count}
use Rattle.hdt_triples.proofs.ObjectLaws.{among_rest, among_first, among_positions, object_law, object_over}
use Rattle.hdt_triples.proofs.TriplePositionLaws.{at_most_one}
use Rattle.hdt_triples.proofs.ScanLaws.{matches_fit}
use Rattle.hdt_triples.proofs.listed_triples.ListedTriples.count_predicate_object.Goals as goal

pub places-init : goal.places-init
places-init c =
    let f = triples_view c.args.self.now.indexed.triples in
    let is = c.positions_of-rest.ensures.is in
    record {
      among = subst (All (IsPositionOf f.array_z c.args.object)) (sym is) (among_positions f.array_z c.args.object);
      few = omega arith;
      so_far = omega (
        arith,
        ap (λ js. length (matches c.args.pattern (map (triple_at f) js))) is,
        ap length (object_law c.args.pattern f c.args.object c.requires.object_given),
      );
      cost = omega (arith, ap length is);
      more = omega arith;
    }

pub predicate_at-requires : goal.predicate_at-requires
predicate_at-requires c =
    let rest = c.places.rest.now in
    let some : 0 < length rest =
    omega (arith, eqb-false (length rest) 0 (sym c.is_empty.ensures ∙ c.if-not-is_empty.true)) in
    (among_first (triples_view c.args.self.now.indexed.triples).array_z c.args.object rest c.read_list-at.result some
    c.read_list-at.ensures.is c.places.invariant.among).0

pub overflow_add-count : goal.overflow_add-count
overflow_add-count c =
    let t = c.args.self.now.indexed.triples in
    let rest = c.places.rest.now in
    let some : 0 < length rest =
    omega (arith, eqb-false (length rest) 0 (sym c.is_empty.ensures ∙ c.if-not-is_empty.true)) in
    omega (
      arith,
      c.places.invariant.so_far,
      in_object_on c.args.pattern (triples_view t) c.args.predicate c.args.object rest
          (drop 1 rest) c.read_list-at.result c.predicate_at.result c.from-count.result c.requires.subject_free
          c.requires.predicate_given c.requires.object_given
          c.places.invariant.among some c.read_list-at.ensures.is refl c.predicate_at.ensures.is c.from-count.ensures,
      matches_fit c.args.pattern t,
    )

pub places-preserved : goal.places-preserved
places-preserved c =
    let f = triples_view c.args.self.now.indexed.triples in
    let rest = c.places.rest.now in
    let js = c.split_at.result.1.now in
    let at = c.read_list-at.result in
    let first = c.read_list-at.ensures.is in
    let behind = c.split_at.ensures.back in
    let some : 0 < length rest =
    omega (arith, eqb-false (length rest) 0 (sym c.is_empty.ensures ∙ c.if-not-is_empty.true)) in
    record {
      among = among_rest f.array_z c.args.object rest js at some first behind c.places.invariant.among;
      few = omega (arith, c.places-test.true, at_most_one _ c.from-count.result c.from-count.ensures);
      so_far = omega (
        arith,
        c.places.invariant.so_far,
        in_object_on c.args.pattern f c.args.predicate c.args.object rest js at c.predicate_at.result
            c.from-count.result c.requires.subject_free c.requires.predicate_given c.requires.object_given
            c.places.invariant.among some first behind c.predicate_at.ensures.is c.from-count.ensures,
      );
      cost = omega (
        arith,
        c.places.invariant.cost,
        c.read_list-at.ensures.cost,
        c.predicate_at.ensures.cost,
        ap length (split_rest rest js at some first behind),
      );
      more = omega (arith, c.places.invariant.more, c.read_list-at.ensures.cost, c.predicate_at.ensures.more);
    }

pub returns-after-places-clause-is : goal.returns-after-places-clause-is
returns-after-places-clause-is c = omega (arith, c.places.invariant.so_far, c.places.invariant.few, c.places-test.false)

pub returns-else-not-is_empty-clause-is : goal.returns-else-not-is_empty-clause-is
returns-else-not-is_empty-clause-is c =
    let rest = c.places.rest.now in
    omega (
      arith,
      c.places.invariant.so_far,
      c.places.invariant.few,
      ap length (object_over c.args.pattern (triples_view c.args.self.now.indexed.triples) rest
          (eqb-true (length rest) 0 (sym c.is_empty.ensures ∙ c.if-not-is_empty.false))),
    )

pub returns-after-places-clause-cost : goal.returns-after-places-clause-cost
returns-after-places-clause-cost c =
    omega (
      arith,
      c.places.invariant.cost,
      c.positions_of-rest.ensures.cost,
      object_count (triples_view c.args.self.now.indexed.triples) c.args.object,
    )

pub returns-else-not-is_empty-clause-cost : goal.returns-else-not-is_empty-clause-cost
returns-else-not-is_empty-clause-cost c =
    omega (
      arith,
      c.places.invariant.cost,
      c.positions_of-rest.ensures.cost,
      object_count (triples_view c.args.self.now.indexed.triples) c.args.object,
    )
