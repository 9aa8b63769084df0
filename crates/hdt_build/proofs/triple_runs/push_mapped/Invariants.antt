use Rattle.std.proofs.Common.{◌++◌, map}
use Rattle.hdt_dict.specs.Strings.{SameMembers}
use Rattle.hdt_build.specs.Graph.{mapped_triple}
use Rattle.hdt_build.specs.Inside.TripleRuns.{joined_runs}
use Rattle.hdt_build.proofs.triple_runs.push_mapped.Given as goal

abbrev pub invariant-runs : goal.invariant-runs
invariant-runs g l = record {
  known : g.S.Scratch.IsKnown
      → SameMembers (joined_runs l.runs.items ++ map (mapped_triple l.ids l.ids l.ids) l.reader)
      (joined_runs l.fn.runs.items ++ map (mapped_triple l.ids l.ids l.ids) l.triples);
}
