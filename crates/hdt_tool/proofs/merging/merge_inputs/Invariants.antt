use Rattle.std.proofs.Common.{◌<◌, length}
use Rattle.hdt_tool.proofs.merging.merge_inputs.Given as goal

abbrev pub invariant-others : goal.invariant-others
invariant-others l = 0 < length l.merger
