use Rattle.hdt_build.specs.Inside.TripleRuns.{joined_runs}
use Rattle.hdt_build.proofs.MergedSequences.{HaveMerged}
use Rattle.hdt_build.proofs.triple_merging.merge_ascending.Given as goal

abbrev pub invariant-triples : goal.invariant-triples
invariant-triples l = record { merged : HaveMerged (joined_runs l.cursors.items) (joined_runs l.runs) l.made }
