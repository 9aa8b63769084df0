use Rattle.std.proofs.Common.{◌≤◌, ◌-◌}
use Rattle.hdt_tool.proofs.error_strings.section_id_at.Given as goal

abbrev pub invariant-halves : goal.invariant-halves
invariant-halves l = l.high ≤ l.len

abbrev pub decreases-halves : goal.decreases-halves
decreases-halves l = l.high - l.low
