use Rattle.hdt_build.proofs.RecordMerging.{one_record}
use Rattle.hdt_build.proofs.record_merging.take_record.Goals as goal

pub returns : goal.returns
returns g c t n runs h =
    one_record g.S.Scratch.IsKnown n runs c.args.cursors.now.items c.step_run.new.cursors.items c.args.builder.now
    c.push.new.self c.args.numbers.now c.note_push.new.numbers c.args.events.now c.push_event.new.events c.args.run
    c.in-Some.bytes.now c.in-Some-split_record.text.now c.in-Some-split_record.role c.in-Some-2.begins
    c.in-Some-target_of.target
    (rw c.as_slice.ensures.value at c.in-Some.ensures.within)
    (rw c.as_slice.ensures.value at c.in-Some.ensures.first)
    c.in-Some-split_record.ensures c.in-Some-target_of.ensures.run c.in-Some-target_of.ensures.role
    c.in_ok-push_event.ensures c.in_ok-step_run.ensures h c.in_ok-pushed.pushed
    (c.in_ok-pushed.ensures n h.groups h.codes h.has) (rw c.in-Some-2.is at c.in_ok-begins.ensures)
