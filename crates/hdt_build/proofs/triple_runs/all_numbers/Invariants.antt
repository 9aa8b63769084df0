use Rattle.std.proofs.Common.{◌≡◌, take}
use Rattle.hdt_build.specs.Inside.TripleRuns.{joined_runs}
use Rattle.hdt_build.proofs.triple_runs.all_numbers.Given as goal

abbrev pub invariant-loop-list : goal.invariant-loop-list
invariant-loop-list g l =
    record { known : g.S.Scratch.IsKnown → l.made.items ≡ joined_runs (take l.list-index l.lists) }
