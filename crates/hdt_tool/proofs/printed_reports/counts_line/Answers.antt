use Rattle.std.proofs.Common.{◌∙◌, ap, append_assoc}
use Rattle.hdt_tool.proofs.printed_reports.counts_line.Goals as goal

pub returns : goal.returns
returns c = ap (λ v. v.items) c.into_bytes.ensures.value ∙ (simp append_assoc at c.in_ok-line.ensures.ok)
