use Rattle.std.proofs.Common.{arith, refl}
use Rattle.hdt_build.proofs.RankedFlags.{flag_passed, flag_set}
use Rattle.hdt_build.proofs.role_flags.flags_of_ranks.Goals as goal
use Rattle.hdt_build.proofs.role_flags.flags_of_ranks.Goals.{then-flags-at, else-flags-at}

pub loop-at-preserved : goal.loop-at-preserved
loop-at-preserved c =
    let l = c.loop-at in
    let i = l.invariant in
    elim c.if-flags-at.branch [
      | then-flags-at w ↦ record {
        len = rw w.made-is (omega (arith, w.set_flag.ensures.len, i.len));
        exact = rw w.made-is (flag_set c.args.flags.now c.args.ranks.now l.at l.made.items w.set_flag.new.flags.items
            i.exact w.if-flags-at.true w.set_flag.ensures.len w.set_flag.ensures.is);
      }
      | else-flags-at w ↦ record {
        len = rw w.made-is i.len;
        exact = rw w.made-is (flag_passed c.args.flags.now c.args.ranks.now l.at l.made.items l.made.items i.exact
            w.if-flags-at.false refl);
      }
    ]
