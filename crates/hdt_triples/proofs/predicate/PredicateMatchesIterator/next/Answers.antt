use Rattle.std.proofs.Common.{arith, ap, subst, sym, ◌∙◌, ◌+◌, ◌∷◌, ℕ, length}
use Rattle.std.proofs.lemmas.Bool.{eqb-true}
use Rattle.std.proofs.lemmas.List.{nil_from_length}
use Rattle.hdt_triples.specs.Bounds.{IsWithinBudget, of_predicate, predicate_cost}
use Rattle.hdt_triples.specs.TripleSequences.{Triple}
use Rattle.hdt_triples.specs.Scanning.{triples_from}
use Rattle.hdt_triples.specs.Patterns.{matches}
use Rattle.hdt_triples.specs.Views.{triples_view}
use Rattle.hdt_triples.specs.Remaining.{remaining_matches}
use Rattle.hdt_triples.specs.declared.matches.Matches.TheVariants.{Predicate}
use Rattle.hdt_triples.proofs.ProgressLaws.{progress_some}
use Rattle.hdt_triples.proofs.PredicateLaws.{predicate_over, predicate_taken, predicate_budget_step}
use Rattle.hdt_triples.proofs.predicate.PredicateMatchesIterator.next.Goals as goal

pub returns-then-is_empty-clause-steps : goal.returns-then-is_empty-clause-steps
unfolding remaining_matches triples_view
returns-then-is_empty-clause-steps c =
    let m = c.args.self.now in
    let none = predicate_over (triples_view m.indexed.now.triples) m.predicate m.cursor.at m.cursor.rest.now
    m.indexed.now.triples.valid.marked (m.positioned.between c.if-not-self.true)
    (nil_from_length m.cursor.rest.now
    (eqb-true (length m.cursor.rest.now) 0 (sym c.is_empty.ensures ∙ c.if-is_empty.true))) in
    (none, none)

pub read_entry-object-requires : goal.read_entry-object-requires
unfolding triples_view
read_entry-object-requires c = (c.enter_pair-cursor.ensures.positioned.inside c.enter_pair-cursor.ensures.inside).within

pub invariant_of-self : goal.invariant_of-self
invariant_of-self c =
    let m = c.args.self.now in
    let f = triples_view m.indexed.now.triples in
    let cursor = c.enter_pair-cursor.result in
    record {
      positioned = c.next_in_pair-self.ensures.positioned m.predicate c.enter_pair-cursor.ensures.positioned;
      few = subst (λ j. IsWithinBudget (predicate_cost f m.predicate) f c.next_in_pair-self.new.steps
          (triples_from f j)) (sym c.next_in_pair-self.ensures.at)
          (predicate_budget_step f m.predicate m.cursor.at cursor.at cursor.subject m.steps
          c.next_in_pair-self.new.steps cursor.rest.now c.enter_pair-cursor.ensures.left
          (c.enter_pair-cursor.ensures.positioned.inside c.enter_pair-cursor.ensures.inside)
          (omega (
            arith,
            c.enter_pair-cursor.ensures.cost,
            c.read_entry-object.ensures.cost,
            c.next_in_pair-self.ensures.cost,
          )) m.few);
    }

pub returns-clause-steps : goal.returns-clause-steps
unfolding remaining_matches triples_view
returns-clause-steps c =
    let m = c.args.self.now in
    let f = triples_view m.indexed.now.triples in
    let cursor = c.enter_pair-cursor.result in
    let rest = λ (j : ℕ). matches (of_predicate m.predicate) (triples_from f j) in
    c.enter_pair-cursor.ensures.left
    ∙ predicate_taken f m.predicate cursor.at cursor.subject cursor.rest.now
    (c.enter_pair-cursor.ensures.positioned.inside c.enter_pair-cursor.ensures.inside)
    ∙ ap (λ z. let t : Triple = (cursor.subject, m.predicate, z) in
    t ∷ rest (cursor.at + 1)) (sym c.read_entry-object.ensures.is)
    ∙ ap (λ j. let t : Triple = (cursor.subject, m.predicate, c.read_entry-object.result) in
    t ∷ rest j) (sym c.next_in_pair-self.ensures.at)

pub returns-clause-goes : goal.returns-clause-goes
returns-clause-goes c = progress_some (λ m. remaining_matches (Predicate m)) _ _ _ (returns-clause-steps c)
