use Rattle.std.proofs.Common.{take, map}
use Rattle.hdt_seq.specs.PackedBits.{bit_number}
use Rattle.hdt_seq.specs.Laws.Packing.{Packs}
use Rattle.hdt_seq.proofs.packing.append_bits.Given as goal

abbrev pub invariant-loop-bit : goal.invariant-loop-bit
invariant-loop-bit l = Packs 1 (take l.bit-index (map bit_number l.bits)) l.rest.word l.rest.filled l.fn.out.items
    l.out.items
