use Rattle.std.proofs.Common.{ℕ, List, ◌+◌, drop, arith, ap, sym, ◌∙◌, nat_eq}
use Rattle.std.proofs.lemmas.List.Sums.{common_prefix_len-le}
use Rattle.hdt_front.proofs.LcpOrder.{order, lcp_len, drop_decides}
use Rattle.hdt_front.proofs.lcp.cmp_from.Goals as goal

pub split_at-requires : goal.split_at-requires
split_at-requires c = omega (arith, c.requires.so_far, (common_prefix_len-le nat_eq c.args.a.now c.args.b.now).0)

pub split_at-requires-2 : goal.split_at-requires-2
split_at-requires-2 c = omega (arith, c.requires.so_far, (common_prefix_len-le nat_eq c.args.a.now c.args.b.now).1)

pub returns-clause-order : goal.returns-clause-order
returns-clause-order c =
    c.cmp_with_lcp-order.ensures.order
    ∙ ap (λ (a : List ℕ). order a c.split_at-2.result.1.now) c.split_at.ensures.back
    ∙ ap (λ (b : List ℕ). order (drop c.args.from c.args.a.now) b) c.split_at-2.ensures.back
    ∙ sym (drop_decides c.args.from c.args.a.now c.args.b.now c.requires.so_far).0

pub returns-clause-same : goal.returns-clause-same
returns-clause-same c =
    ap (λ n. c.args.from + n) (c.cmp_with_lcp-order.ensures.same
    ∙ ap (λ (a : List ℕ). lcp_len a c.split_at-2.result.1.now) c.split_at.ensures.back
    ∙ ap (λ (b : List ℕ). lcp_len (drop c.args.from c.args.a.now) b) c.split_at-2.ensures.back)
    ∙ sym (drop_decides c.args.from c.args.a.now c.args.b.now c.requires.so_far).1
