use Rattle.std.proofs.Common.{arith, drop, nat_eq, length-drop}
use Rattle.std.proofs.lemmas.List.Sums.{common_prefix_len-le}
use Rattle.hdt_front.proofs.lcp.lcp_bytewise.Goals as goal

pub returns-else-len-b-clause-greatest : goal.returns-else-len-b-clause-greatest
returns-else-len-b-clause-greatest c =
    let l = c.loop-len in
    omega (
      arith,
      l.invariant.so_far,
      c.if-len-b.false,
      length-drop l.len c.args.b.now,
      (common_prefix_len-le nat_eq (drop l.len c.args.a.now) (drop l.len c.args.b.now)).1,
    )
