use Rattle.std.proofs.Common.{◌≡◌}
use Rattle.hdt_probe_parts.proofs.section_cursors.reply_section_seek.Given as goal

abbrev pub invariant-loop-n : goal.invariant-loop-n
invariant-loop-n l = l.seeker.section ≡ l.section
