use Rattle.hdt_build.specs.Inside.Collecting.{collected_triples}
use Rattle.hdt_build.proofs.RecordBatches.{batch_of}
use Rattle.hdt_build.proofs.batches.sorted_batch.Goals as goal

pub returns : goal.returns
returns c =
    let indices = c.as_slice-indices.ensures.value in
    batch_of (collected_triples c.args.collector) c.in_ok-list.list c.in_ok-records.records c.in_ok-records.ranks.items
    c.in_ok-records.ensures.ranks c.in_ok-list.triples.items c.map_ids.new.triples.items c.in_ok-list.ensures.within
    c.in_ok-list.ensures.graph (rw indices at c.map_ids.ensures)
    (rw (c.as_slice.ensures.value, c.len.ensures) at (c.in_ok-are_all_used.ensures c.if-not-branch.false))
