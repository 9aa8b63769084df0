use Rattle.std.proofs.Common.{ℕ, List, ap, ◌∙◌}
use Rattle.hdt_front.specs.WriterState.{SectionWriterState, last_string}
use Rattle.hdt_front.specs.Order.{lcp_len}
use Rattle.hdt_front.proofs.section_writer.SectionWriter.push.Goals as goal

pub push_with_lcp-requires-clause-same : goal.push_with_lcp-requires-clause-same
push_with_lcp-requires-clause-same c =
    c.common_prefix-same.ensures.greatest
    ∙ ap (λ (l : List ℕ). lcp_len l c.args.string.now) (c.deref.ensures.value ∙ c.self.invariant.last)
    ∙ ap (λ (w : SectionWriterState). lcp_len (last_string w) c.args.string.now) c.self.view_is
