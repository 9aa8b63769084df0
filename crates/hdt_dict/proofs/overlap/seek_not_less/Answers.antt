use Rattle.hdt_dict.proofs.ComparisonUpdates.{other_turned}
use Rattle.hdt_dict.proofs.overlap.seek_not_less.Goals as goal

pub update_comparison-comparison-requires-in-loop-cursor : goal.update_comparison-comparison-requires-in-loop-cursor
update_comparison-comparison-requires-in-loop-cursor c =
    let l = c.loop-cursor in
    other_turned c.in_ok-kept.kept l.comparison l.cursor c.advance.new.self c.args.x.now l.invariant.0
    c.in_ok-kept.ensures.kept c.in_ok-kept.ensures.ok
