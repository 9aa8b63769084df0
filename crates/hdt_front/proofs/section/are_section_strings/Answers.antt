use Rattle.std.proofs.Common.{◌≡◌, ◌+◌, ℕ, List, [], length, drop, get_or, arith, sym, ◌∙◌}
use Rattle.std.specs.Borrow.{Bor}
use Rattle.hdt_front.specs.Laws.FrontCodingSteps.{Ascending}
use Rattle.hdt_front.specs.Laws.FrontCoding.{strings_are, strings_ascend}
use Rattle.hdt_front.specs.Canonical.{borrowed_texts}
use Rattle.hdt_front.proofs.BorrowedStrings.{next_of, none_left}
use Rattle.hdt_front.proofs.StringSequence.{forth, back, ended}
use Rattle.hdt_front.proofs.section.are_section_strings.Goals as goal

nothing : Bor (List ℕ)
nothing = record { ref_ptr = (0, 0); now = [] }

pub loop-i-preserved : goal.loop-i-preserved
unfolding nothing
loop-i-preserved c =
    let l = c.loop-i in
    let xs = c.args.strings.now in
    let all = Ascending 0 [] (borrowed_texts xs) in
    let left = next_of xs l.i nothing c.loop-i-test.true in
    let rest : List (List ℕ) = drop (l.i + 1) (borrowed_texts xs) in
    record {
      forth = forth all l.i l.before.now (get_or xs l.i nothing).now (drop l.i (borrowed_texts xs)) rest left
          (sym c.can_follow.ensures ∙ c.if-not-can_follow.false) l.invariant.forth;
      back = λ h. (back all l.i l.before.now (get_or xs l.i nothing).now
          (drop l.i (borrowed_texts xs)) rest left l.invariant.back h).1;
    }

pub returns-then-not-can_follow-clause-only : goal.returns-then-not-can_follow-clause-only
unfolding nothing
returns-then-not-can_follow-clause-only c = λ are.
    let l = c.loop-i in
    let xs = c.args.strings.now in
    let all = Ascending 0 [] (borrowed_texts xs) in
    let left = next_of xs l.i nothing c.loop-i-test.true in
    let rest : List (List ℕ) = drop (l.i + 1) (borrowed_texts xs) in
    sym c.if-not-can_follow.true ∙ c.can_follow.ensures
    ∙ (back all l.i l.before.now (get_or xs l.i nothing).now
    (drop l.i (borrowed_texts xs)) rest left l.invariant.back (strings_ascend (borrowed_texts xs) are)).0

pub returns-clause-found : goal.returns-clause-found
returns-clause-found c = λ _.
    let l = c.loop-i in
    let xs = c.args.strings.now in
    let end : l.i ≡ length xs = omega (arith, c.loop-i-test.false, l.auto.i-end) in
    strings_are (borrowed_texts xs)
    (ended (Ascending 0 [] (borrowed_texts xs)) l.i l.before.now (drop l.i (borrowed_texts xs))
    (none_left xs l.i end) l.invariant.forth)
