use Rattle.std.proofs.Common.{◌∙◌, length, ap, sym}
use Rattle.hdt_build.proofs.PackedTriples.{length-unpacked}
use Rattle.hdt_build.proofs.packed_triples.PackedTriples.len.Goals as goal

pub returns : goal.returns
returns c =
    let s = c.self.inside in
    sym (length-unpacked s.count 0 s.bytes.items) ∙ ap length c.self.view_is
