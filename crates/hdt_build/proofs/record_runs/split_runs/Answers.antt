use Rattle.std.proofs.Common.{arith}
use Rattle.hdt_build.proofs.BatchEncoding.{no_items}
use Rattle.hdt_build.proofs.Grouping.{split_done, split_more, split_none}
use Rattle.hdt_build.proofs.record_runs.split_runs.Goals as goal

pub loop-batch-init : goal.loop-batch-init
loop-batch-init g c =
    rw (
      c.new-counts.ensures.items,
      c.new-runs.ensures.items,
      c.into_iter-batch-iterator.ensures.into_iter_gives.0,
    ) (split_none c.args.records.items)

pub loop-batch-preserved : goal.loop-batch-preserved
loop-batch-preserved g c =
    rw (c.in_ok-push.ensures.items, c.count_of.ensures, c.in_ok-append_runs.ensures)
    (split_more c.loop-batch.counts.items c.loop-batch.runs.items c.batch.inside.runs.items
    c.loop-batch.batch-iterator.rest.items c.next.new.self.rest.items c.args.records.items c.in-Some.batch
    c.in-Some.ensures.steps.0 c.batch.view_is c.loop-batch.invariant)

pub returns : goal.returns
returns g c =
    let none = no_items c.loop-batch.batch-iterator.rest.items
    (omega (arith, c.in-None.ensures.steps.0, c.loop-batch.batch-iterator.rest.ok.0)) in
    let s = split_done c.loop-batch.counts.items c.loop-batch.runs.items c.loop-batch.batch-iterator.rest.items
    c.args.records.items none c.loop-batch.invariant in
    record { groups = s.0; joined = s.1 }
