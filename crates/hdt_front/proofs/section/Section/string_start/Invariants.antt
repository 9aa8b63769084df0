use Rattle.std.proofs.Common.{◌≡◌, ◌+◌, ◌*◌, ◌/◌}
use Rattle.hdt_front.specs.EntryFacts.{bytes_from_entry}
use Rattle.hdt_front.proofs.section.Section.string_start.Given as goal

abbrev pub invariant-loop-k : goal.invariant-loop-k
invariant-loop-k l = l.rest
    ≡ bytes_from_entry l.self.packed.block_size
    (l.i / l.self.packed.block_size * l.self.packed.block_size + l.k) l.self.packed.bytes.now
