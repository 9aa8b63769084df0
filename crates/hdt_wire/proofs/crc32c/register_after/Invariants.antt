use Rattle.std.proofs.Common.{◌≡◌, length, drop}
use Rattle.std.specs.Prelude.{fold}
use Rattle.hdt_wire.specs.Crc.{crc32_step}
use Rattle.hdt_wire.proofs.crc32c.register_after.Given as goal

abbrev pub invariant-eights : goal.invariant-eights
invariant-eights l = fold crc32_step l.register l.rest ≡ fold crc32_step l.fn.before l.fn.bytes

abbrev pub decreases-eights : goal.decreases-eights
decreases-eights l = length l.rest

abbrev pub invariant-loop-byte : goal.invariant-loop-byte
invariant-loop-byte l = fold crc32_step l.register (drop l.byte-index l.byte-items)
    ≡ fold crc32_step l.fn.before l.fn.bytes
