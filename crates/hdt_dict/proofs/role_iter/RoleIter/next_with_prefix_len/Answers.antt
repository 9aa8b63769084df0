use Rattle.std.proofs.Common.{◌≡◌, ◌≤◌, ◌++◌, true, false, ap, sym, subst, ◌∙◌, arith}
use Rattle.hdt_front.specs.Order.{lcp_len}
use Rattle.hdt_front.specs.Iteration.{strings}
use Rattle.hdt_dict.specs.RoleSections.{second_strings}
use Rattle.hdt_dict.specs.Iteration.{RoleIterState, step_role_iter, next_id}
use Rattle.hdt_dict.proofs.IterationSteps.{front_kept, ended, empty, no_strings, stays, behind, no_next, unmoved, took}
use Rattle.hdt_dict.proofs.IterationSteps.{Took}
use Rattle.hdt_dict.proofs.role_iter.RoleIter.next_with_prefix_len.Goals as goal
use Rattle.hdt_dict.proofs.role_iter.RoleIter.next_with_prefix_len.Goals.{After-new-iter, Else-is_none}

abbrev was : After-new-iter → RoleIterState
was c = record {
  given = c.self.inside.given;
  last = c.self.inside.iter.last;
  ahead =
      strings c.self.inside.iter.ahead ++ second_strings c.self.inside.second;
}

-- the first section is at its end, so what remains are the strings of the second one
rest : (c : After-new-iter) → (was c).ahead ≡ strings c.new-iter.result.ahead
rest c =
    let w = c.self.inside.iter in
    ap (λ t. strings w.ahead ++ second_strings t) c.in-Some.is
    ∙ behind w c.new-iter.result c.in-Some.section
    (ended w _ _ c.in_ok-place.ensures.place c.is_some.ensures c.if-is_some.false) c.new-iter.ensures

took_next : (c : Else-is_none) (old : RoleIterState) → old.ahead ≡ strings c.new-iter.result.ahead
    → Took old c.next.new.self
took_next c old left = took c.new-iter.result c.next.new.self _ _ old c.in_ok-next-in-Some.ensures.place
    c.is_none.ensures c.if-is_none.false c.in_ok-next-in-Some.ensures.ok left

pub returns-then-is_some-clause-kept : goal.returns-then-is_some-clause-kept
returns-then-is_some-clause-kept c =
    subst (λ (p : RoleIterState). c.in_ok-place.kept
    ≤ lcp_len p.last c.next_with_prefix_len.new.self.last) c.self.view_is
    (front_kept c.self.inside.iter c.next_with_prefix_len.new.self c.in_ok-place.kept c.in_ok-place.ensures.kept
    c.in_ok-place.ensures.ok)

pub returns-then-is_none-clause-id : goal.returns-then-is_none-clause-id
returns-then-is_none-clause-id c =
    let at = (goal.at.returns-then-is_none-clause-id c).After-new-iter in
    let none = rest at ∙ ap strings
    (empty c.new-iter.result _ _ c.in_ok-next-in-Some.ensures.place c.is_none.ensures c.if-is_none.true) in
    no_next (was at) none ∙ ap (λ (p : RoleIterState). next_id p p.ahead) c.self.view_is

pub returns-then-is_none-clause-ok : goal.returns-then-is_none-clause-ok
returns-then-is_none-clause-ok c =
    let w = c.self.inside.iter in
    let over = ended w _ _ c.in_ok-place.ensures.place c.is_some.ensures c.if-is_some.false in
    let at = (goal.at.returns-then-is_none-clause-ok c).After-new-iter in
    let none = rest at ∙ ap strings
    (empty c.new-iter.result _ _ c.in_ok-next-in-Some.ensures.place c.is_none.ensures c.if-is_none.true) in
    let same = stays w c.next_with_prefix_len.new.self over c.in_ok-place.ensures.ok in
    ap (λ w. (let p : RoleIterState =
    record {
      given = c.self.inside.given;
      last = w.last;
      ahead =
          strings w.ahead ++ second_strings c.self.inside.second;
    } in p)) same ∙ unmoved (was at) none
    ∙ ap step_role_iter c.self.view_is

pub overflow_add-self-in-Some : goal.overflow_add-self-in-Some
overflow_add-self-in-Some c =
    let at = goal.at.overflow_add-self-in-Some c in
    let t = took_next at.Else-is_none (was at.After-new-iter) (rest at.After-new-iter) in
    omega (arith, t.fewer, c.self.invariant)

pub invariant_of-self-in-Some : goal.invariant_of-self-in-Some
invariant_of-self-in-Some c =
    let at = goal.at.invariant_of-self-in-Some c in
    let t = took_next at.Else-is_none (was at.After-new-iter) (rest at.After-new-iter) in
    omega (arith, t.fewer, c.self.invariant)

pub returns-else-is_none-clause-id : goal.returns-else-is_none-clause-id
returns-else-is_none-clause-id c =
    let at = goal.at.returns-else-is_none-clause-id c in
    let t = took_next at.Else-is_none (was at.After-new-iter) (rest at.After-new-iter) in
    t.id ∙ ap (λ (p : RoleIterState). next_id p p.ahead) c.self.view_is

pub returns-else-is_none-clause-ok : goal.returns-else-is_none-clause-ok
returns-else-is_none-clause-ok c =
    let at = goal.at.returns-else-is_none-clause-ok c in
    let t = took_next at.Else-is_none (was at.After-new-iter) (rest at.After-new-iter) in
    t.new ∙ ap step_role_iter c.self.view_is

pub returns-in_err-next-in-Some-clause-ended : goal.returns-in_err-next-in-Some-clause-ended
returns-in_err-next-in-Some-clause-ended c =
    let left = rest (goal.at.returns-in_err-next-in-Some-clause-ended c).After-new-iter in
    λ none. let k : false ≡ true =
    c.in_err-next-in-Some.ensures.ended
    (no_strings c.new-iter.result.ahead (sym left ∙ ap (λ (p : RoleIterState). p.ahead) c.self.view_is ∙ none)) in
    absurd (cc)
