use Rattle.std.proofs.Common.{ap, ◌∙◌}
use Rattle.hdt_front.specs.WriterState.{SectionWriterState}
use Rattle.hdt_front.specs.Canonical.{block_offsets, packed_of}
use Rattle.hdt_front.proofs.WriterSteps.{all_starts}
use Rattle.hdt_front.proofs.section_writer.SectionWriter.into_parts.Goals as goal

pub returns-clause-starts : goal.returns-clause-starts
returns-clause-starts c =
    let s = c.self.inside in
    all_starts s.block_size _ s.last.items s.starts.items s.packed.items c.self.invariant
    ∙ ap (λ (w : SectionWriterState). block_offsets w.block_size w.strings) c.self.view_is

pub returns-clause-packed : goal.returns-clause-packed
returns-clause-packed c =
    c.self.invariant.packed ∙ ap (λ (w : SectionWriterState). packed_of w.block_size w.strings) c.self.view_is
