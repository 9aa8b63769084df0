use Rattle.std.proofs.Common.{◌∙◌, ap}
use Rattle.hdt_seq.specs.Width.{width_of}
use Rattle.hdt_build.specs.Inside.PackedNumbers.{unpacked_numbers}
use Rattle.hdt_build.proofs.PackedNumbers.{width_of_greatest}
use Rattle.hdt_build.proofs.packed_numbers.PackedNumbers.width.Goals as goal

pub returns-clause-is : goal.returns-clause-is
returns-clause-is c =
    let s = c.self.inside in
    c.width_of.ensures.is
    ∙ width_of_greatest (unpacked_numbers s.count s.bytes.items) s.greatest c.self.invariant.most_is
    ∙ ap width_of c.self.view_is
