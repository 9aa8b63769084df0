use Rattle.std.proofs.Common.{ap, ◌∙◌}
use Rattle.hdt_front.specs.WriterState.{last_string}
use Rattle.hdt_front.proofs.section_writer.SectionWriter.last.Goals as goal

pub returns : goal.returns
returns c = c.deref.ensures.value ∙ c.self.invariant.last ∙ ap last_string c.self.view_is
