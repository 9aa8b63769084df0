use Rattle.std.proofs.Common.{arith, ap, map, ◌∷◌, true, false, ◌∙◌, sym, ◌<◌, length}
use Rattle.std.proofs.lemmas.Bool.{eqb-true}
use Rattle.hdt_triples.specs.TripleSequences.{triple_at}
use Rattle.hdt_triples.specs.Patterns.{agrees, matches}
use Rattle.hdt_triples.specs.Views.{triples_view}
use Rattle.hdt_triples.specs.Remaining.{remaining_matches, step_limit, steps_taken}
use Rattle.hdt_triples.specs.declared.matches.Matches.TheVariants.{Object}
use Rattle.hdt_triples.proofs.ProgressLaws.{progress_some}
use Rattle.hdt_triples.proofs.ObjectLaws.{among_first, among_rest, object_budget_step, object_step, object_over}
use Rattle.hdt_triples.proofs.object.ObjectMatchesIterator.next.Goals as goal

pub invariant_of-self : goal.invariant_of-self
invariant_of-self c =
    let m = c.loop-self.self in
    let f = triples_view m.indexed.now.triples in
    let some : 0 < length m.rest.now = omega arith in
    let first = c.read_list-at.ensures.is in
    record {
      given = m.given;
      among = among_rest f.array_z m.object m.rest.now _ c.read_list-at.result some first c.split_at.ensures.back
          m.among;
      few = object_budget_step m.object f m.rest.now _ c.read_list-at.result m.steps c.triple_of_object-triple.new.steps
          some first c.split_at.ensures.back
          (among_first f.array_z m.object m.rest.now c.read_list-at.result some first m.among)
          (omega (arith, c.read_list-at.ensures.cost, c.triple_of_object-triple.ensures.cost)) m.few;
    }

pub returns-then-is_match-clause-steps : goal.returns-then-is_match-clause-steps
unfolding remaining_matches step_limit
returns-then-is_match-clause-steps c =
    let m = c.loop-self.self in
    let f = triples_view m.indexed.now.triples in
    let some : 0 < length m.rest.now = omega arith in
    let is = c.triple_of_object-triple.ensures.is in
    sym c.loop-self.invariant.left
    ∙ object_step m.pattern f m.rest.now c.split_at.result.1.now c.read_list-at.result true some
    c.read_list-at.ensures.is c.split_at.ensures.back (ap (agrees m.pattern) (sym is) ∙ sym c.is_match.ensures
    ∙ c.if-is_match.true)
    ∙ ap (λ t. t ∷ matches m.pattern (map (triple_at f) c.split_at.result.1.now)) (sym is)

pub loop-self-preserved : goal.loop-self-preserved
unfolding remaining_matches step_limit steps_taken
loop-self-preserved c =
    let m = c.loop-self.self in
    let f = triples_view m.indexed.now.triples in
    let some : 0 < length m.rest.now = omega arith in
    let is = c.triple_of_object-triple.ensures.is in
    record {
      left = sym (object_step m.pattern f m.rest.now c.split_at.result.1.now c.read_list-at.result false some
          c.read_list-at.ensures.is c.split_at.ensures.back (ap (agrees m.pattern) (sym is) ∙ sym c.is_match.ensures
          ∙ c.if-is_match.false))
          ∙ c.loop-self.invariant.left;
      same = c.loop-self.invariant.same;
      more = omega (
        arith,
        c.loop-self.invariant.more,
        c.read_list-at.ensures.cost,
        c.triple_of_object-triple.ensures.more,
      );
    }

pub returns-clause-steps : goal.returns-clause-steps
unfolding remaining_matches step_limit
returns-clause-steps c =
    let m = c.loop-self.self in
    let none = object_over m.pattern (triples_view m.indexed.now.triples) m.rest.now
    (eqb-true (length m.rest.now) 0 (sym c.is_empty.ensures ∙ c.loop-self-test.false)) in
    (sym c.loop-self.invariant.left ∙ none, none)

pub returns-then-is_match-clause-goes : goal.returns-then-is_match-clause-goes
returns-then-is_match-clause-goes c =
    progress_some (λ m. remaining_matches (Object m)) _ _ _ (returns-then-is_match-clause-steps c)

pub returns-then-is_match-clause-more : goal.returns-then-is_match-clause-more
unfolding steps_taken
returns-then-is_match-clause-more c =
    omega (arith, c.loop-self.invariant.more, c.read_list-at.ensures.cost, c.triple_of_object-triple.ensures.more)

pub returns-clause-more : goal.returns-clause-more
returns-clause-more c = c.loop-self.invariant.more
