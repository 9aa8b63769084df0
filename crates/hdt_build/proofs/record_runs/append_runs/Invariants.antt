use Rattle.std.proofs.Common.{◌≡◌, ◌++◌}
use Rattle.hdt_build.proofs.record_runs.append_runs.Given as goal

abbrev pub invariant-loop-run : goal.invariant-loop-run
invariant-loop-run g l = l.out.items ++ l.run-iterator.rest.items ≡ l.fn.out.items ++ l.fn.runs.items
