use Rattle.std.proofs.Common.{◌++◌}
use Rattle.hdt_dict.specs.Strings.{SameMembers}
use Rattle.hdt_build.specs.Inside.TripleRuns.{AreAscendingTo, joined_runs}
use Rattle.hdt_build.proofs.tape_merging.merge_triple_runs.Given as goal

-- the written triples ascend, and are all but those that remain in the runs
abbrev pub invariant-triples : goal.invariant-triples
invariant-triples g l = record {
  ascending : g.S.Scratch.IsKnown → AreAscendingTo l.made.last l.made.triples;
  same : g.S.Scratch.IsKnown → SameMembers (l.made.triples ++ joined_runs l.cursors.items) (joined_runs l.runs);
}
