use Rattle.std.proofs.Common.{arith, ap, sym, ◌∙◌, ◌+◌, ◌∷◌}
use Rattle.hdt_triples.specs.TripleSequences.{Triple}
use Rattle.hdt_triples.specs.Scanning.{triples_from}
use Rattle.hdt_triples.specs.Patterns.{matches}
use Rattle.hdt_triples.specs.Views.{triples_view}
use Rattle.hdt_triples.specs.Remaining.{remaining_matches}
use Rattle.hdt_triples.specs.declared.matches.Matches.TheVariants.{Pair}
use Rattle.hdt_triples.proofs.ProgressLaws.{progress_some}
use Rattle.hdt_triples.proofs.RunLaws.{run_over, run_taken, run_on, run_budget_step}
use Rattle.hdt_triples.proofs.pair.PairMatchesIterator.next.Goals as goal

pub returns-then-self-clause-steps : goal.returns-then-self-clause-steps
unfolding remaining_matches
returns-then-self-clause-steps c =
    let m = c.args.self.now in
    let none = run_over (triples_view m.triples) m.pattern m.subject m.predicate m.at m.end m.run (omega arith) in
    (none, none)

pub read_entry-object-requires : goal.read_entry-object-requires
unfolding triples_view
read_entry-object-requires c = omega (arith, c.args.self.now.run.within)

pub invariant_of-self : goal.invariant_of-self
invariant_of-self c =
    let m = c.args.self.now in
    record {
      run = run_on (triples_view m.triples) m.pattern m.subject m.predicate m.at m.end m.run (omega arith);
      few = run_budget_step (triples_view m.triples) m.pattern m.subject m.predicate m.at m.end m.steps
          c.read_entry-object.new.steps m.run (omega arith) (omega (arith, c.read_entry-object.ensures.cost)) m.few;
    }

pub returns-clause-steps : goal.returns-clause-steps
unfolding remaining_matches triples_view
returns-clause-steps c =
    let m = c.args.self.now in
    let f = triples_view m.triples in
    run_taken f m.pattern m.subject m.predicate m.at m.end m.run (omega arith)
    ∙ ap (λ z. let t : Triple = (m.subject, m.predicate, z) in
    t ∷ matches m.pattern (triples_from f (m.at + 1))) (sym c.read_entry-object.ensures.is)

pub returns-clause-goes : goal.returns-clause-goes
returns-clause-goes c = progress_some (λ m. remaining_matches (Pair m)) _ _ _ (returns-clause-steps c)
