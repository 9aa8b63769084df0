use Rattle.hdt_build.proofs.BatchEncoding.{one_list}
use Rattle.hdt_build.proofs.batch_encoding.new_lists.Goals as goal

pub loop-preserved : goal.loop-preserved
loop-preserved g c =
    let s = one_list c.loop.made.items c.push_item.new.out.items c.loop.counter c.new-list.result
    c.in_ok-push_item.ensures c.new-list.ensures c.loop.invariant.long c.loop.invariant.none in
    record { long = s.0; none = s.1 }
