use Rattle.hdt_wire.proofs.CountedWrites.{grown, grows, prefix_if_failed}
use Rattle.hdt_wire.proofs.control.append_control.Goals as goal

pub returns-in_err-push-clause-err : goal.returns-in_err-push-clause-err
returns-in_err-push-clause-err c =
    prefix_if_failed c.from_residual-in_err-push.result c.args.out.now.items _ _
    (grown _ _ _ c.in_ok-extend_from_slice.ensures.items) c.in_err-push.ensures.items

pub returns-in_err-extend_from_slice-2-clause-err : goal.returns-in_err-extend_from_slice-2-clause-err
returns-in_err-extend_from_slice-2-clause-err c =
    prefix_if_failed c.from_residual-in_err-extend_from_slice-2.result c.args.out.now.items _ _
    (grows _ _ _ _ (grown _ _ _ c.in_ok-extend_from_slice.ensures.items) c.in_ok-push.ensures.items)
    c.in_err-extend_from_slice-2.ensures.items

pub returns-in_err-push-2-clause-err : goal.returns-in_err-push-2-clause-err
returns-in_err-push-2-clause-err c =
    prefix_if_failed c.from_residual-in_err-push-2.result c.args.out.now.items _ _
    (grows _ _ _ _ (grows _ _ _ _ (grown _ _ _ c.in_ok-extend_from_slice.ensures.items) c.in_ok-push.ensures.items)
    c.in_ok-extend_from_slice-2.ensures.items) c.in_err-push-2.ensures.items

pub returns-in_err-extend_from_slice-3-clause-err : goal.returns-in_err-extend_from_slice-3-clause-err
returns-in_err-extend_from_slice-3-clause-err c =
    prefix_if_failed c.from_residual-in_err-extend_from_slice-3.result c.args.out.now.items _ _
    (grows _ _ _ _ (grows _ _ _ _
    (grows _ _ _ _ (grown _ _ _ c.in_ok-extend_from_slice.ensures.items) c.in_ok-push.ensures.items)
    c.in_ok-extend_from_slice-2.ensures.items) c.in_ok-push-2.ensures.items)
    c.in_err-extend_from_slice-3.ensures.items

pub returns-in_err-push-3-clause-err : goal.returns-in_err-push-3-clause-err
returns-in_err-push-3-clause-err c =
    prefix_if_failed c.from_residual-in_err-push-3.result c.args.out.now.items _ _
    (grows _ _ _ _ (grows _ _ _ _
    (grows _ _ _ _ (grows _ _ _ _ (grown _ _ _ c.in_ok-extend_from_slice.ensures.items) c.in_ok-push.ensures.items)
    c.in_ok-extend_from_slice-2.ensures.items) c.in_ok-push-2.ensures.items)
    c.in_ok-extend_from_slice-3.ensures.items) c.in_err-push-3.ensures.items
