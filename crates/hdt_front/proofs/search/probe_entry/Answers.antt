use Rattle.std.proofs.Common.{◌+◌, ◌++◌, List, ℕ, arith, ap, sym, ◌∙◌, take}
use Rattle.hdt_front.specs.Order.{string_cmp, lcp_len}
use Rattle.hdt_front.proofs.LcpOrder.{rest_decides}
use Rattle.hdt_front.proofs.PrefixLemmas.{kept_before}
use Rattle.hdt_front.proofs.search.probe_entry.Goals as goal

pub returns-then-kept-same : goal.returns-then-kept-same
returns-then-kept-same c = λ last fits before.
    kept_before c.args.bound c.args.x.now last c.args.text.now c.args.kept c.args.same fits
    (omega (arith, c.if-kept-same.true)) before

pub returns : goal.returns
returns c = λ last fits before.
    let r = rest_decides c.args.kept last c.args.x.now c.args.text.now
    (omega (arith, before.same, c.if-kept-same.false)) in
    let e = c.cmp_with_lcp-order.ensures in
    let back = c.split_at.ensures.back in
    c.probe.ensures (take c.args.kept last ++ c.args.text.now)
    (e.order ∙ ap (λ (t : List ℕ). string_cmp c.args.text.now t) back ∙ sym r.0)
    (ap (λ (k : ℕ). c.args.kept + k) e.same ∙ ap (λ (t : List ℕ). c.args.kept + lcp_len c.args.text.now t) back
    ∙ sym r.1)
