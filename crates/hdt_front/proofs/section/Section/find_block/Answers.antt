use Rattle.std.proofs.Common.{arith, ◌+◌, ◌-◌, ◌/◌}
use Rattle.hdt_front.proofs.LcpBetween.{heads_between, least}
use Rattle.hdt_seq.specs.Laws.Width.{digits_split}
use Rattle.hdt_front.proofs.section.Section.find_block.Goals as goal

pub compare_head-order-requires-clause-so_far : goal.compare_head-order-requires-clause-so_far
compare_head-order-requires-clause-so_far c =
    let l = c.loop-low in
    let v = l.invariant in
    let far = heads_between c.args.self.now c.args.x.now l.low
    (l.low + (l.high - l.low) / 2) l.high l.low_lcp l.high_lcp
    (omega arith) (omega (arith, c.loop-low-test)) v.inside v.some_low
    (λ h. (v.before h).same) v.some_high v.high_lcp in
    omega (arith, c.min-from.ensures, least l.low_lcp l.high_lcp, far)

pub returns-in-Same-clause-cost : goal.returns-in-Same-clause-cost
returns-in-Same-clause-cost c =
    let l = c.loop-low in
    omega (
      arith,
      c.compare_head-order.ensures.cost,
      l.invariant.cost,
      digits_split (l.high - l.low) 0 (omega arith) (omega arith),
    )
