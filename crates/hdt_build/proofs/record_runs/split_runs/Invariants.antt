use Rattle.hdt_build.proofs.Grouping.{AreSplit}
use Rattle.hdt_build.proofs.record_runs.split_runs.Given as goal

abbrev pub invariant-loop-batch : goal.invariant-loop-batch
invariant-loop-batch g l = AreSplit l.counts.items l.runs.items l.batch-iterator.rest.items l.fn.records.items
