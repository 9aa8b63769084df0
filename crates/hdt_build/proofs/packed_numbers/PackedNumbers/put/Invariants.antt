use Rattle.std.proofs.Common.{◌∷◌, length}
use Rattle.hdt_wire.specs.VByte.{vbyte}
use Rattle.hdt_seq.specs.Width.{width_of}
use Rattle.hdt_build.specs.Inside.PackedNumbers.{HaveWritten}
use Rattle.hdt_build.proofs.packed_numbers.PackedNumbers.put.Given as goal

abbrev pub invariant-numbers : goal.invariant-numbers
invariant-numbers l =
    let width = width_of l.fn.self in
    HaveWritten l.fn.out.items (1 ∷ width ∷ vbyte (length l.fn.self)) width l.fn.self l.reader l.writer l.out.items

abbrev pub decreases-numbers : goal.decreases-numbers
decreases-numbers l = length l.reader
