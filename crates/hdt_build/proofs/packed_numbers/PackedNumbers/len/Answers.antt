use Rattle.std.proofs.Common.{◌∙◌, length, ap, sym}
use Rattle.hdt_build.proofs.PackedNumbers.{length_unpacked_numbers}
use Rattle.hdt_build.proofs.packed_numbers.PackedNumbers.len.Goals as goal

pub returns : goal.returns
returns c =
    let s = c.self.inside in
    sym (length_unpacked_numbers s.count s.bytes.items) ∙ ap length c.self.view_is
