use Rattle.std.proofs.Common.{arith, ap, sym, suc, ◌∷◌, ◌∙◌, ◌≡◌, ◌≤◌, ◌+◌, ◌*◌, length, refl}
use Rattle.hdt_triples.specs.Bounds.{lookup_cost, list_search_cost, match_count}
use Rattle.hdt_triples.specs.Patterns.{matches}
use Rattle.hdt_triples.specs.Views.{triples_view}
use Rattle.hdt_triples.specs.Remaining.{remaining_matches}
use Rattle.hdt_triples.specs.Scanning.{triples_from}
use Rattle.hdt_triples.proofs.TriplePositionLaws.{within_pairs}
use Rattle.hdt_triples.proofs.SubjectObjectLaws.{first_price, goes_over, goes_skip, next_taken, no_next, spared}
use Rattle.hdt_triples.proofs.ScanLaws.{matches_none}
use Rattle.hdt_triples.proofs.subject_object.SubjectObjectMatches.next_by_object_list.Goals as goal

pub invariant_of-self : goal.invariant_of-self
invariant_of-self c =
    let m = c.args.self.now in
    let f = triples_view m.indexed.now.triples in
    let search_cost = list_search_cost f m.object in
    let most = lookup_cost f + 4 * search_cost * (1 + match_count m.pattern f) in
    let left = length (matches m.pattern (triples_from f m.position.at)) in
    let list = first_price f m.object _ m.places.now m.places_are refl in
    record {
      subject_given = m.subject_given;
      predicate_free = m.predicate_free;
      object_given = m.object_given;
      places_are = m.places_are;
      price_is = m.price_is;
      positioned = λ h. absurd (omega (arith, h, c.len-self.ensures));
      reached = λ h. absurd (omega (arith, h, c.len-self.ensures));
      room = omega arith;
      few = spared m.subject f m.position.at c.len-self.result (m.steps + m.saved_steps)
          (c.next_with_object-next.new.steps + 0) (omega (arith, c.requires.within, c.len-self.ensures))
          (omega (arith, c.len-self.ensures))
          (omega (arith, c.next_with_object-next.ensures.cost, list, m.price_is, c.requires.paid)) m.few;
      goes = λ h. absurd (omega (arith, h, c.len-self.ensures));
      short = goes_over search_cost most m.steps c.next_with_object-next.new.steps left m.saved_steps
          (omega (arith, c.next_with_object-next.ensures.cost, list)) (omega (arith, m.room, m.price_is))
          (m.goes c.requires.within);
    }

pub returns-in_default-clause-steps : goal.returns-in_default-clause-steps
unfolding remaining_matches
returns-in_default-clause-steps c =
    let m = c.args.self.now in
    let f = triples_view m.indexed.now.triples in (
      no_next m.pattern f m.subject m.object m.position.at m.subject_given m.object_given
          (omega (arith, c.requires.within)) (c.next_with_object-next.ensures.none c.in_default.is),
      matches_none m.pattern f c.len-self.result (omega (arith, c.len-self.ensures)),
    )

pub read_entry-predicate-requires : goal.read_entry-predicate-requires
unfolding triples_view
read_entry-predicate-requires c =
    let t = c.args.self.now.indexed.now.triples in
    within_pairs (triples_view t) c.in-Some.position t.valid.marked c.in-Some.ensures.found.positioned
    c.in-Some.ensures.found.within

pub invariant_of-self-2 : goal.invariant_of-self-2
invariant_of-self-2 c =
    let m = c.args.self.now in
    let f = triples_view m.indexed.now.triples in
    let search_cost = list_search_cost f m.object in
    let most = lookup_cost f + 4 * search_cost * (1 + match_count m.pattern f) in
    let more = length (matches m.pattern (triples_from f m.position.at)) in
    let next = c.advance-self.result.at in
    let left = length (matches m.pattern (triples_from f next)) in
    let found = c.in-Some.ensures.found in
    let list = first_price f m.object _ m.places.now m.places_are refl in
    let taken = next_taken m.pattern f m.subject m.object m.position.at c.in-Some.position m.subject_given
    m.predicate_free m.object_given found in
    let is : more ≡ suc left =
    ap length taken ∙ ap (λ j. suc (length (matches m.pattern (triples_from f j))))
    (sym c.advance-self.ensures.at) in
    let cost : c.advance-self.new.steps ≤ m.steps + search_cost =
    omega (
      arith,
      c.next_with_object-next.ensures.cost,
      c.read_entry-predicate.ensures.cost,
      c.advance-self.ensures.cost,
      list,
    ) in
    let room : m.saved_steps ≤ search_cost = omega (arith, m.room, m.price_is) in
    record {
      subject_given = m.subject_given;
      predicate_free = m.predicate_free;
      object_given = m.object_given;
      places_are = m.places_are;
      price_is = m.price_is;
      positioned = λ h. c.advance-self.ensures.positioned;
      reached = λ h. omega (arith, c.advance-self.ensures.later, found.own);
      room = omega arith;
      few = spared m.subject f m.position.at next (m.steps + m.saved_steps) (c.advance-self.new.steps + 0)
          (omega (arith, found.later, c.advance-self.ensures.at))
          (omega (arith, found.within, c.advance-self.ensures.at))
          (omega (arith, cost, m.price_is, c.requires.paid)) m.few;
      goes = λ h. goes_skip search_cost most m.steps c.advance-self.new.steps more left m.saved_steps cost room is
          (m.goes c.requires.within);
      short = goes_over search_cost most m.steps c.advance-self.new.steps more m.saved_steps cost room
          (m.goes c.requires.within);
    }

pub returns-clause-steps : goal.returns-clause-steps
unfolding remaining_matches triples_view
returns-clause-steps c =
    let m = c.args.self.now in
    let f = triples_view m.indexed.now.triples in
    next_taken m.pattern f m.subject m.object m.position.at c.in-Some.position m.subject_given m.predicate_free
    m.object_given c.in-Some.ensures.found
    ∙ ap (λ q. (m.subject, q, m.object) ∷ matches m.pattern (triples_from f (c.in-Some.position.at + 1)))
    (sym c.read_entry-predicate.ensures.is)
    ∙ ap (λ j. (m.subject, c.read_entry-predicate.result, m.object) ∷ matches m.pattern (triples_from f j))
    (sym c.advance-self.ensures.at)
