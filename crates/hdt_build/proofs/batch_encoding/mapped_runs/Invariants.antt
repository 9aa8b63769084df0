use Rattle.std.proofs.Common.{◌++◌, drop}
use Rattle.hdt_dict.specs.Strings.{SameMembers}
use Rattle.hdt_build.specs.Inside.Batches.{grouped, joined_mapped}
use Rattle.hdt_build.specs.Inside.TripleRuns.{joined_runs}
use Rattle.hdt_build.proofs.batch_encoding.mapped_runs.Given as goal

abbrev pub invariant-loop-at : goal.invariant-loop-at
invariant-loop-at g l = g.S.Scratch.IsKnown
    → SameMembers
    (joined_runs l.made.items ++ joined_mapped (drop l.at l.triples) (grouped (drop l.at l.counts) l.rest))
    (joined_mapped l.triples (grouped l.counts l.lists))
