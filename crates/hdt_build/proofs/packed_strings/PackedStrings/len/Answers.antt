use Rattle.std.proofs.Common.{◌∙◌, [], length, ap, sym}
use Rattle.hdt_build.proofs.PackedStrings.{length_unpacked_strings}
use Rattle.hdt_build.proofs.packed_strings.PackedStrings.len.Goals as goal

pub returns : goal.returns
returns c =
    let s = c.self.inside in
    sym (length_unpacked_strings s.count [] s.bytes.items) ∙ ap length c.self.view_is
