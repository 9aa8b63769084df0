use Rattle.std.proofs.Common.{sym, ◌∙◌}
use Rattle.hdt_front.proofs.PrefixLemmas.{by_parts, compares}
use Rattle.hdt_front.proofs.search.probe.Goals as goal

pub returns-then-is_before : goal.returns-then-is_before
returns-then-is_before c = λ string order lcp.
    record {
      before = by_parts c.args.bound c.args.x.now string c.args.order c.args.lcp order lcp
          ∙ sym c.is_before.ensures ∙ c.if-is_before.true;
      same = sym lcp;
    }

pub returns-then-is_eq : goal.returns-then-is_eq
returns-then-is_eq c = λ string order lcp.
    (compares c.args.bound c.args.x.now string c.args.order c.args.lcp order lcp (sym c.is_before.ensures
    ∙ c.if-is_before.false)).0 (sym c.is_eq.ensures ∙ c.if-is_eq.true)

pub returns-else-is_eq : goal.returns-else-is_eq
returns-else-is_eq c = λ string order lcp.
    (compares c.args.bound c.args.x.now string c.args.order c.args.lcp order lcp (sym c.is_before.ensures
    ∙ c.if-is_before.false)).1 (sym c.is_eq.ensures ∙ c.if-is_eq.false)
