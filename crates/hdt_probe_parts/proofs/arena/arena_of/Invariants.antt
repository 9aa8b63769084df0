use Rattle.hdt_dict.specs.Arena.{AreStringStarts}
use Rattle.hdt_probe_parts.proofs.arena.arena_of.Given as goal

abbrev pub invariant-loop-string : goal.invariant-loop-string
invariant-loop-string l = AreStringStarts l.bytes.items l.starts.items
