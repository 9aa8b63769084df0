use Rattle.std.proofs.Common.{arith, ap, ◌∷◌, ◌∙◌, sym, ◌<◌, drop, length, refl}
use Rattle.std.proofs.lemmas.Bool.{eqb-true, eqb-false}
use Rattle.std.proofs.lemmas.List.{nil_from_length}
use Rattle.hdt_triples.specs.Patterns.{matches}
use Rattle.hdt_triples.specs.Views.{triples_view}
use Rattle.hdt_triples.specs.Remaining.{remaining_matches, step_limit, shorter_list_step_limit, steps_taken}
use Rattle.hdt_triples.specs.Scanning.{triples_from}
use Rattle.hdt_triples.specs.declared.matches.Matches.TheVariants.{PredicateObject}
use Rattle.hdt_triples.proofs.ProgressLaws.{progress_some}
use Rattle.hdt_triples.proofs.InvertedIndexLaws.{split_rest}
use Rattle.hdt_triples.proofs.MatchCountLaws.{between_on}
use Rattle.hdt_triples.proofs.PredicateLaws.{next_of}
use Rattle.hdt_triples.proofs.PredicateObjectLaws.{look_paid, next_found, next_missed, over}
use Rattle.hdt_triples.proofs.predicate_object.PredicateObjectMatchesIterator.next.Goals as goal

pub object_in_pair-position-requires : goal.object_in_pair-position-requires
object_in_pair-position-requires c =
    let m = c.pairs.self in
    let f = triples_view m.indexed.now.triples in
    let rest = m.rest.now in
    let q = c.read_list-pair.result in
    let some : 0 < length rest =
    omega (arith, eqb-false (length rest) 0 (sym c.is_empty.ensures ∙ c.pairs-test.true)) in
    let split = split_rest rest (drop 1 rest) q some c.read_list-pair.ensures.is refl in
    (next_of f m.predicate m.at q rest (drop 1 rest) m.between split).within

pub subject_of_pair-subject-requires : goal.subject_of_pair-subject-requires
subject_of_pair-subject-requires c =
    let m = c.pairs.self in
    let f = triples_view m.indexed.now.triples in
    let rest = m.rest.now in
    let q = c.read_list-pair.result in
    let some : 0 < length rest =
    omega (arith, eqb-false (length rest) 0 (sym c.is_empty.ensures ∙ c.pairs-test.true)) in
    let split = split_rest rest (drop 1 rest) q some c.read_list-pair.ensures.is refl in
    (next_of f m.predicate m.at q rest (drop 1 rest) m.between split).within

pub invariant_of-self : goal.invariant_of-self
invariant_of-self c =
    let m = c.pairs.self in
    let f = triples_view m.indexed.now.triples in
    let rest = m.rest.now in
    let q = c.read_list-pair.result in
    let some : 0 < length rest =
    omega (arith, eqb-false (length rest) 0 (sym c.is_empty.ensures ∙ c.pairs-test.true)) in
    let qs = c.split_at.result.1.now in
    let split = split_rest rest qs q some c.read_list-pair.ensures.is c.split_at.ensures.back in
    let here = c.object_in_pair-position.result.0 in
    let end = c.object_in_pair-position.result.1 in
    let is = c.object_in_pair-position.ensures.is in
    record {
      free = m.free;
      predicate_given = m.predicate_given;
      object_given = m.object_given;
      between = between_on f m.predicate m.at q is.start end rest qs m.between split is.triple_range;
      short = look_paid f q m.steps c.subject_of_pair-subject.new.steps _ rest qs split
          (omega (
            arith,
            c.read_list-pair.ensures.cost,
            c.object_in_pair-position.ensures.cost,
            c.subject_of_pair-subject.ensures.cost,
          )) m.short;
      few = m.few;
    }

pub invariant_of-self-else-position-end : goal.invariant_of-self-else-position-end
invariant_of-self-else-position-end c =
    let m = c.pairs.self in
    let f = triples_view m.indexed.now.triples in
    let rest = m.rest.now in
    let q = c.read_list-pair.result in
    let some : 0 < length rest =
    omega (arith, eqb-false (length rest) 0 (sym c.is_empty.ensures ∙ c.pairs-test.true)) in
    let qs = c.split_at.result.1.now in
    let split = split_rest rest qs q some c.read_list-pair.ensures.is c.split_at.ensures.back in
    let here = c.object_in_pair-position.result.0 in
    let end = c.object_in_pair-position.result.1 in
    let is = c.object_in_pair-position.ensures.is in
    record {
      free = m.free;
      predicate_given = m.predicate_given;
      object_given = m.object_given;
      between = between_on f m.predicate m.at q is.start end rest qs m.between split is.triple_range;
      short = look_paid f q m.steps c.object_in_pair-position.new.steps _ rest qs split
          (omega (arith, c.read_list-pair.ensures.cost, c.object_in_pair-position.ensures.cost)) m.short;
      few = m.few;
    }

pub returns-then-position-end-clause-steps : goal.returns-then-position-end-clause-steps
unfolding remaining_matches
returns-then-position-end-clause-steps c =
    let m = c.pairs.self in
    let f = triples_view m.indexed.now.triples in
    let rest = m.rest.now in
    let q = c.read_list-pair.result in
    let some : 0 < length rest =
    omega (arith, eqb-false (length rest) 0 (sym c.is_empty.ensures ∙ c.pairs-test.true)) in
    let qs = c.split_at.result.1.now in
    let split = split_rest rest qs q some c.read_list-pair.ensures.is c.split_at.ensures.back in
    let here = c.object_in_pair-position.result.0 in
    let end = c.object_in_pair-position.result.1 in
    let is = c.object_in_pair-position.ensures.is in
    sym c.pairs.invariant.left
    ∙ next_found m.pattern f m.predicate m.object m.at q here end rest qs m.free m.predicate_given m.object_given
    m.between split is c.if-position-end.true
    ∙ ap (λ s. (s, m.predicate, m.object) ∷ matches m.pattern (triples_from f end))
    (sym c.subject_of_pair-subject.ensures.is)

pub returns-then-position-end-clause-goes : goal.returns-then-position-end-clause-goes
returns-then-position-end-clause-goes c =
    progress_some (λ m. remaining_matches (PredicateObject m)) _ _ _ (returns-then-position-end-clause-steps c)

pub pairs-preserved : goal.pairs-preserved
unfolding remaining_matches step_limit shorter_list_step_limit steps_taken
pairs-preserved c =
    let m = c.pairs.self in
    let f = triples_view m.indexed.now.triples in
    let rest = m.rest.now in
    let q = c.read_list-pair.result in
    let some : 0 < length rest =
    omega (arith, eqb-false (length rest) 0 (sym c.is_empty.ensures ∙ c.pairs-test.true)) in
    let qs = c.split_at.result.1.now in
    let split = split_rest rest qs q some c.read_list-pair.ensures.is c.split_at.ensures.back in
    let here = c.object_in_pair-position.result.0 in
    let end = c.object_in_pair-position.result.1 in
    let is = c.object_in_pair-position.ensures.is in
    record {
      left = sym (next_missed m.pattern f m.predicate m.object m.at q here end rest qs m.predicate_given m.object_given
          m.between split is c.if-position-end.false) ∙ c.pairs.invariant.left;
      same = c.pairs.invariant.same;
      short = c.pairs.invariant.short;
      more = omega (
        arith,
        c.pairs.invariant.more,
        c.read_list-pair.ensures.cost,
        c.object_in_pair-position.ensures.more,
      );
    }

pub returns-clause-steps : goal.returns-clause-steps
unfolding remaining_matches triples_view
returns-clause-steps c =
    let m = c.pairs.self in
    let t = m.indexed.now.triples in
    let rest = m.rest.now in
    let none = over m.pattern (triples_view t) m.predicate m.at rest t.valid.marked m.predicate_given m.between
    (nil_from_length rest (eqb-true (length rest) 0 (sym c.is_empty.ensures ∙ c.pairs-test.false))) in
    (sym c.pairs.invariant.left ∙ none, none)
