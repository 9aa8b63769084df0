use Rattle.std.proofs.Common.{arith, ap, sym, suc, ◌∷◌, ◌∙◌, ◌≡◌, ◌≤◌, ◌<◌, ◌+◌, ◌*◌, length}
use Rattle.hdt_triples.specs.Bounds.{lookup_cost, list_search_cost, match_count}
use Rattle.hdt_triples.specs.TripleSequences.{pair_of, subject_at}
use Rattle.hdt_triples.specs.Patterns.{matches}
use Rattle.hdt_triples.specs.Views.{triples_view}
use Rattle.hdt_triples.specs.Remaining.{remaining_matches, step_limit, shorter_list_step_limit, steps_taken}
use Rattle.hdt_triples.specs.Scanning.{triples_from}
use Rattle.hdt_triples.specs.declared.matches.Matches.TheVariants.{SubjectObject}
use Rattle.hdt_triples.proofs.ProgressLaws.{progress_some}
use Rattle.hdt_triples.proofs.TriplePositionLaws.{within_pairs}
use Rattle.hdt_triples.proofs.SubjectLaws.{matches_over}
use Rattle.hdt_triples.proofs.SubjectObjectLaws.{IsWithinListBudget, goes_hit, goes_miss, goes_short, budget_after}
use Rattle.hdt_triples.proofs.SubjectObjectLaws.{some_price, scan_missed, scan_taken}
use Rattle.hdt_triples.proofs.ScanLaws.{matches_none}
use Rattle.hdt_triples.proofs.subject_object.SubjectObjectMatchesIterator.next.Goals as goal

pub read_entry-predicate-requires : goal.read_entry-predicate-requires
unfolding triples_view
read_entry-predicate-requires c =
    let m = c.triples.self in
    let t = m.indexed.now.triples in
    let within : m.position.at < length (triples_view t).array_z = omega (arith, c.triples-test.true, c.len.ensures) in
    within_pairs (triples_view t) m.position t.valid.marked (m.positioned within) within

pub invariant_of-self : goal.invariant_of-self
unfolding triples_view
invariant_of-self c =
    let m = c.triples.self in
    let f = triples_view m.indexed.now.triples in
    let within : m.position.at < length f.array_z = omega (arith, c.triples-test.true, c.len.ensures) in
    let search_cost = list_search_cost f m.object in
    let most = lookup_cost f + 4 * search_cost * (1 + match_count m.pattern f) in
    let more = length (matches m.pattern (triples_from f m.position.at)) in
    let next = c.advance-self.result.at in
    let left = length (matches m.pattern (triples_from f next)) in
    let own : subject_at f (pair_of f m.position.at) ≡ m.subject =
    sym ((m.positioned within).subject_is ∙ ap (subject_at f) (m.positioned within).pair_is) ∙ c.if-self.true in
    let room : m.saved_steps ≤ search_cost = omega (arith, m.room, m.price_is) in
    let is : more ≡ suc left =
    ap length (scan_taken m.pattern f m.subject m.object m.position m.subject_given m.predicate_free m.object_given
    (m.positioned within) within c.if-self.true (sym c.read_entry-object.ensures.is ∙ c.if-object-self.true))
    ∙ ap (λ j. suc (length (matches m.pattern (triples_from f j)))) (sym c.advance-self.ensures.at) in
    let cost : c.read_entry-predicate.new.steps ≤ m.steps + 4 =
    omega (
      arith,
      c.read_entry-object.ensures.cost,
      c.advance-self.ensures.cost,
      c.read_entry-predicate.ensures.cost,
    ) in
    let goes : IsWithinListBudget search_cost most c.read_entry-predicate.new.steps left m.saved_steps =
    goes_hit search_cost most m.steps c.read_entry-predicate.new.steps more left m.saved_steps
    (omega (arith, some_price f m.object)) cost is (m.goes within) in
    record {
      subject_given = m.subject_given;
      predicate_free = m.predicate_free;
      object_given = m.object_given;
      places_are = m.places_are;
      price_is = m.price_is;
      positioned = λ h. c.advance-self.ensures.positioned;
      reached = λ h. omega (arith, c.advance-self.ensures.later, c.if-self.true);
      room = m.room;
      few = budget_after m.subject f m.position.at next (m.steps + m.saved_steps)
          (c.read_entry-predicate.new.steps + m.saved_steps) within own
          (omega (arith, cost)) c.advance-self.ensures.at m.few;
      goes = λ h. goes;
      short = goes_short search_cost most c.read_entry-predicate.new.steps left m.saved_steps room goes;
    }

pub returns-then-object-self-clause-steps : goal.returns-then-object-self-clause-steps
unfolding remaining_matches triples_view
returns-then-object-self-clause-steps c =
    let m = c.triples.self in
    let f = triples_view m.indexed.now.triples in
    let within : m.position.at < length f.array_z = omega (arith, c.triples-test.true, c.len.ensures) in
    sym c.triples.invariant.left
    ∙ scan_taken m.pattern f m.subject m.object m.position m.subject_given m.predicate_free m.object_given
    (m.positioned within) within c.if-self.true (sym c.read_entry-object.ensures.is ∙ c.if-object-self.true)
    ∙ ap (λ q. (m.subject, q, m.object) ∷ matches m.pattern (triples_from f (m.position.at + 1)))
    (sym c.read_entry-predicate.ensures.is)
    ∙ ap (λ o. (m.subject, c.read_entry-predicate.result, o) ∷ matches m.pattern (triples_from f (m.position.at + 1)))
    (sym c.if-object-self.true)
    ∙ ap (λ j. (m.subject, c.read_entry-predicate.result, c.read_entry-object.result)
    ∷ matches m.pattern (triples_from f j)) (sym c.advance-self.ensures.at)

pub invariant_of-self-in-triples : goal.invariant_of-self-in-triples
unfolding triples_view
invariant_of-self-in-triples c =
    let m = c.triples.self in
    let f = triples_view m.indexed.now.triples in
    let within : m.position.at < length f.array_z = omega (arith, c.triples-test.true, c.len.ensures) in
    let search_cost = list_search_cost f m.object in
    let most = lookup_cost f + 4 * search_cost * (1 + match_count m.pattern f) in
    let more = length (matches m.pattern (triples_from f m.position.at)) in
    let next = c.advance-self.result.at in
    let left = length (matches m.pattern (triples_from f next)) in
    let own : subject_at f (pair_of f m.position.at) ≡ m.subject =
    sym ((m.positioned within).subject_is ∙ ap (subject_at f) (m.positioned within).pair_is) ∙ c.if-self.true in
    let room : m.saved_steps ≤ search_cost = omega (arith, m.room, m.price_is) in
    let is : more ≡ left = ap length
    (scan_missed m.pattern f m.object m.position.at m.object_given within
    (λ e. c.if-object-self.false (c.read_entry-object.ensures.is ∙ e)))
    ∙ ap (λ j. length (matches m.pattern (triples_from f j))) (sym c.advance-self.ensures.at) in
    let cost : c.advance-self.new.steps ≤ m.steps + 3 =
    omega (arith, c.read_entry-object.ensures.cost, c.advance-self.ensures.cost) in
    let goes : IsWithinListBudget search_cost most c.advance-self.new.steps left (m.saved_steps + 1) =
    goes_miss search_cost most m.steps c.advance-self.new.steps more left m.saved_steps cost is (m.goes within) in
    let space : m.saved_steps + 1 ≤ search_cost = omega (arith, c.if-self-2.false, m.price_is) in
    record {
      subject_given = m.subject_given;
      predicate_free = m.predicate_free;
      object_given = m.object_given;
      places_are = m.places_are;
      price_is = m.price_is;
      positioned = λ h. c.advance-self.ensures.positioned;
      reached = λ h. omega (arith, c.advance-self.ensures.later, c.if-self.true);
      room = omega (arith, c.if-self-2.false);
      few = budget_after m.subject f m.position.at next (m.steps + m.saved_steps)
          (c.advance-self.new.steps + (m.saved_steps + 1)) within own
          (omega (arith, cost)) c.advance-self.ensures.at m.few;
      goes = λ h. goes;
      short = goes_short search_cost most c.advance-self.new.steps left (m.saved_steps + 1) space goes;
    }

pub triples-preserved : goal.triples-preserved
unfolding remaining_matches step_limit shorter_list_step_limit steps_taken triples_view
triples-preserved c =
    let m = c.triples.self in
    let f = triples_view m.indexed.now.triples in
    let within : m.position.at < length f.array_z = omega (arith, c.triples-test.true, c.len.ensures) in
    record {
      left = ap (λ j. matches m.pattern (triples_from f j)) c.advance-self.ensures.at
          ∙ sym (scan_missed m.pattern f m.object m.position.at m.object_given within
          (λ e. c.if-object-self.false (c.read_entry-object.ensures.is ∙ e))) ∙ c.triples.invariant.left;
      same = c.triples.invariant.same;
      short = c.triples.invariant.short;
      more = omega (arith, c.triples.invariant.more, c.read_entry-object.ensures.cost, c.advance-self.ensures.more);
    }

pub returns-else-self-clause-steps : goal.returns-else-self-clause-steps
unfolding remaining_matches
returns-else-self-clause-steps c =
    let m = c.triples.self in
    let f = triples_view m.indexed.now.triples in
    let within : m.position.at < length f.array_z = omega (arith, c.triples-test.true, c.len.ensures) in
    let none = matches_over m.pattern m.subject f m.position m.subject_given (m.positioned within)
    (omega (arith, m.reached within, c.if-self.false)) in
    (sym c.triples.invariant.left ∙ none, none)

pub returns-after-triples-clause-steps : goal.returns-after-triples-clause-steps
unfolding remaining_matches
returns-after-triples-clause-steps c =
    let m = c.triples.self in
    let f = triples_view m.indexed.now.triples in
    let none = matches_none m.pattern f m.position.at (omega (arith, c.triples-test.false, c.len.ensures)) in
    (sym c.triples.invariant.left ∙ none, none)

pub read_entry-object-requires : goal.read_entry-object-requires
unfolding triples_view
read_entry-object-requires c = omega (arith, c.triples-test.true, c.len.ensures)

pub returns-then-object-self-clause-goes : goal.returns-then-object-self-clause-goes
returns-then-object-self-clause-goes c =
    progress_some (λ m. remaining_matches (SubjectObject m)) _ _ _ (returns-then-object-self-clause-steps c)
