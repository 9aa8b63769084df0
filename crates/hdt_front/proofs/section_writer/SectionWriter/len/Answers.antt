use Rattle.std.proofs.Common.{ap, sym, ◌∙◌, [], length}
use Rattle.hdt_front.specs.Laws.StringSteps.{length-decoded_strings}
use Rattle.hdt_front.specs.WriterState.{SectionWriterState}
use Rattle.hdt_front.proofs.section_writer.SectionWriter.len.Goals as goal

pub returns : goal.returns
returns c =
    let s = c.self.inside in
    sym (length-decoded_strings s.block_size s.count 0 [] s.packed.items)
    ∙ ap (λ (w : SectionWriterState). length w.strings) c.self.view_is
