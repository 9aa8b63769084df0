use Rattle.hdt_build.proofs.RecordMerging.{same_lists_merged}
use Rattle.hdt_build.proofs.record_merging.merged_records.Goals as goal

pub returns : goal.returns
returns g c =
    same_lists_merged _ _ _ _ _ _ _ _ ((rw c.in-Some.is at c.in_ok-sections.ensures)
    c.args.block_size c.in_ok-builder.ensures)
    c.in_ok-numbers.ensures
