use Rattle.std.proofs.Common.{◌≡◌, ◌≤◌, length}
use Rattle.hdt_tool.proofs.split_parts.part_files.Given as goal

abbrev pub invariant-parts : goal.invariant-parts
invariant-parts l = (length l.files.items ≡ l.part) × (l.part ≤ l.parts)
