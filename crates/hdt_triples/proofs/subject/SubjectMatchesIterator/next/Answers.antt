use Rattle.std.proofs.Common.{arith, subst, sym, ◌∙◌, ap}
use Rattle.hdt_triples.specs.TripleSequences.{subject_at}
use Rattle.hdt_triples.specs.Scanning.{triples_from}
use Rattle.hdt_triples.specs.Bounds.{IsWithinBudget, subject_cost}
use Rattle.hdt_triples.specs.Views.{triples_view}
use Rattle.hdt_triples.specs.Remaining.{remaining_matches}
use Rattle.hdt_triples.proofs.SubjectLaws.{matches_over, budget_step}
use Rattle.hdt_triples.proofs.subject.SubjectMatchesIterator.next.Goals as goal

pub invariant_of-self : goal.invariant_of-self
invariant_of-self c =
    let m = c.loop-self.self in
    let f = triples_view m.triples in
    record {
      given = m.given;
      positioned = c.advance-self.ensures.positioned;
      reached = λ h. omega (arith, c.advance-self.ensures.later, c.if-self.true);
      few = subst (λ j. IsWithinBudget (subject_cost f m.subject) f c.advance-self.new.steps (triples_from f j))
          (sym c.advance-self.ensures.at)
          (budget_step m.subject f m.position.at m.steps c.advance-self.new.steps
          (omega (arith, c.loop-self-test.true, c.len.ensures))
          (sym (m.positioned.subject_is ∙ ap (subject_at f) m.positioned.pair_is)
          ∙ c.if-self.true) (omega (arith, c.read_triple-triple.ensures.cost, c.advance-self.ensures.cost)) m.few);
    }

pub returns-else-self-clause-steps : goal.returns-else-self-clause-steps
unfolding remaining_matches
returns-else-self-clause-steps c =
    let m = c.loop-self.self in
    let none = matches_over m.pattern m.subject (triples_view m.triples) m.position m.given m.positioned
    (omega (arith, m.reached (omega (arith, c.loop-self-test.true, c.len.ensures)), c.if-self.false)) in
    (sym c.loop-self.invariant.left ∙ none, none)
