use Rattle.std.proofs.Common.{arith, sym}
use Rattle.hdt_dict.specs.Strings.{empty_string}
use Rattle.hdt_dict.proofs.BorrowedStrings.{one_more}
use Rattle.hdt_dict.proofs.parts.copy_strings.Goals as goal

pub loop-text-preserved : goal.loop-text-preserved
loop-text-preserved c =
    rw c.in_ok-push.ensures.items
    (one_more (λ v. v.now) (λ w. w.items) c.args.list.now c.loop-text.made.items c.loop-text.text-index empty_string
    c.in_ok-from_slice.field-0 (omega arith)
    (sym c.in_ok-from_slice.ensures.items) c.loop-text.invariant)
