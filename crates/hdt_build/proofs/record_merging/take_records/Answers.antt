use Rattle.hdt_build.proofs.RecordMerging.{merge_begun}
use Rattle.hdt_build.proofs.record_merging.take_records.Goals as goal

pub records-init : goal.records-init
records-init g c n has =
    merge_begun g.S.Scratch.IsKnown n c.args.runs.now c.in_ok-cursors.cursors.items c.args.builder.now
    c.args.numbers.now c.args.events.now has c.in_ok-cursors.ensures c.requires.numbers c.requires.events

pub records-preserved : goal.records-preserved
records-preserved g c n has =
    c.in_ok-take_record.ensures c.if-not-branch.false n c.args.runs.now (c.records.invariant n has)

pub returns : goal.returns
returns g c done n has = record {
  rests = c.records.cursors.items;
  merging = c.records.invariant n has;
  none = rw c.as_slice-2.ensures.value at c.are_done.ensures done;
}
