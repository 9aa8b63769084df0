use Rattle.std.proofs.Common.{true, false, [], unwrap_or, ◌||◌, sym, ◌∙◌}
use Rattle.hdt_dict.specs.Inside.Overlap.{contains_string}
use Rattle.hdt_dict.proofs.Overlaps.{meets, turned, among_after, ascends_after, ascends_passed, or_left, or_right}
use Rattle.hdt_dict.proofs.Overlaps.{or_none, or_both}
use Rattle.hdt_dict.proofs.ComparisonUpdates.{list_turned, is_met}
use Rattle.hdt_dict.proofs.overlap.first_common.Goals as goal
use Rattle.hdt_dict.proofs.overlap.first_common.Goals.{then-eq-via-then-eq, then-eq-via-else-eq+then-eq-2}

pub returns-then-eq : goal.returns-then-eq
returns-then-eq c =
    let l = c.loop-x in
    let x = c.in-Some.x.now in
    c.place.ensures ∙ meets l.list x (λ x. contains_string l.one x || contains_string (unwrap_or l.two []) x)
    (sym c.in-Some.ensures)
    (elim c.then-eq.branch [
      | then-eq-via-then-eq w ↦ or_left (contains_string l.one x) (contains_string (unwrap_or l.two []) x)
          (is_met x l.one c.seek_not_less.new.cursor c.in_ok-first.first true l.invariant.2
          c.in_ok-first.ensures.comparison c.in_ok-first.ensures.left w.if-eq.ensures)
      | then-eq-via-else-eq+then-eq-2 w ↦ or_right (contains_string l.one x) (contains_string (unwrap_or l.two []) x)
          (is_met x (unwrap_or l.two []) (unwrap_or c.seek_if_any.new.cursor []) c.in_ok-second.second true
          l.invariant.3 c.in_ok-second.ensures.comparison c.in_ok-second.ensures.left w.if-eq-2.ensures)
    ])
    ∙ l.invariant.0

pub loop-x-preserved : goal.loop-x-preserved
loop-x-preserved c =
    let l = c.loop-x in
    let x = c.in-Some.x.now in
    let in_one = is_met x l.one c.seek_not_less.new.cursor c.in_ok-first.first false l.invariant.2
    c.in_ok-first.ensures.comparison c.in_ok-first.ensures.left c.if-eq.ensures in
    let in_two = is_met x (unwrap_or l.two []) (unwrap_or c.seek_if_any.new.cursor []) c.in_ok-second.second false
    l.invariant.3 c.in_ok-second.ensures.comparison c.in_ok-second.ensures.left c.if-eq-2.ensures in (
      turned l.list c.advance.new.self x (λ x. contains_string l.one x || contains_string (unwrap_or l.two []) x)
          (λ x. contains_string c.seek_not_less.new.cursor x || contains_string
          (unwrap_or c.seek_if_any.new.cursor []) x)
          (sym c.in-Some.ensures) l.invariant.1 c.in_ok-kept.ensures.ok (or_none _ _ in_one in_two)
          (λ z h. or_both _ _ _ _ (among_after x l.one c.seek_not_less.new.cursor c.in_ok-first.ensures.left z h)
          (among_after x (unwrap_or l.two []) (unwrap_or c.seek_if_any.new.cursor []) c.in_ok-second.ensures.left z
          h))
          ∙ l.invariant.0,
      ascends_passed l.list c.advance.new.self l.invariant.1 c.in_ok-kept.ensures.ok,
      ascends_after x l.one c.seek_not_less.new.cursor l.invariant.2 c.in_ok-first.ensures.left,
      ascends_after x (unwrap_or l.two [])
          (unwrap_or c.seek_if_any.new.cursor []) l.invariant.3 c.in_ok-second.ensures.left,
      list_turned c.in_ok-kept.kept c.in_ok-first.first c.seek_not_less.new.cursor l.list c.advance.new.self x
          (sym c.in-Some.ensures) c.in_ok-first.ensures.comparison c.in_ok-kept.ensures.kept c.in_ok-kept.ensures.ok,
      list_turned c.in_ok-kept.kept c.in_ok-second.second
          (unwrap_or c.seek_if_any.new.cursor []) l.list c.advance.new.self x
          (sym c.in-Some.ensures) c.in_ok-second.ensures.comparison c.in_ok-kept.ensures.kept c.in_ok-kept.ensures.ok,
    )
