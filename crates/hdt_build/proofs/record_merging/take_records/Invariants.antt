use Rattle.std.proofs.Common.{ℕ, []}
use Rattle.hdt_build.specs.Inside.GroupedSections.{HasGroups}
use Rattle.hdt_build.specs.Inside.RecordMerging.{IsMerging}
use Rattle.hdt_build.proofs.record_merging.take_records.Given as goal

abbrev pub invariant-records : goal.invariant-records
invariant-records g l = (n : ℕ) → HasGroups n l.fn.builder [] []
    → IsMerging g.S.Scratch.IsKnown n l.runs l.cursors.items l.builder l.numbers l.events
