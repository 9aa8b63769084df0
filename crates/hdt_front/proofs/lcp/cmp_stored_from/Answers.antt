use Rattle.std.proofs.Common.{ℕ, arith, ap, sym, ◌∙◌, get_or}
use Rattle.std.specs.Ordering.{nat_cmp}
use Rattle.hdt_front.proofs.LcpOrder.{stored_order}
use Rattle.hdt_front.proofs.lcp.cmp_stored_from.Goals as goal

pub lcp_from-same-requires : goal.lcp_from-same-requires
lcp_from-same-requires c =
    let lies = stored_order c.args.stored.now c.args.x.now c.requires.ends c.requires.sought in
    omega (arith, lies.same, c.requires.so_far)

pub bounds-stored-same : goal.bounds-stored-same
bounds-stored-same c =
    let lies = stored_order c.args.stored.now c.args.x.now c.requires.ends c.requires.sought in
    omega (arith, lies.inside, c.lcp_from-same.ensures.greatest, c.requires.ends)

pub returns-clause-order : goal.returns-clause-order
returns-clause-order c =
    let lies = stored_order c.args.stored.now c.args.x.now c.requires.ends c.requires.sought in
    let stored = c.args.stored.now in
    let same = c.lcp_from-same.ensures.greatest in
    c.cmp.ensures ∙ ap (λ (b : ℕ). nat_cmp (get_or stored c.lcp_from-same.result 0) b) c.byte_or_zero.ensures
    ∙ ap (λ (k : ℕ). nat_cmp (get_or stored k 0) (get_or c.args.x.now k 0)) same ∙ sym lies.order

pub returns-clause-same : goal.returns-clause-same
returns-clause-same c =
    let lies = stored_order c.args.stored.now c.args.x.now c.requires.ends c.requires.sought in
    c.lcp_from-same.ensures.greatest ∙ lies.same
