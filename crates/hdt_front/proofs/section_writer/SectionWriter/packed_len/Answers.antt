use Rattle.std.proofs.Common.{◌≡◌, ap, ◌∙◌, length, arith}
use Rattle.hdt_front.specs.WriterState.{SectionWriterState}
use Rattle.hdt_front.specs.Canonical.{packed_of}
use Rattle.hdt_front.proofs.section_writer.SectionWriter.packed_len.Goals as goal

pub returns : goal.returns
returns c =
    let len : c.len.result ≡ length c.self.inside.packed.items =
    omega (arith, c.len.ensures, c.self.inside.packed.ok.0) in
    len ∙ ap length c.self.invariant.packed
    ∙ ap (λ (w : SectionWriterState). length (packed_of w.block_size w.strings)) c.self.view_is
