use Rattle.std.proofs.Common.{◌∙◌, ap, append_assoc}
use Rattle.hdt_tool.proofs.answerer.fault_answer.Goals as goal

pub returns : goal.returns
returns c = ap (λ v. v.items) c.into_bytes.ensures.value
    ∙ (simp append_assoc (simp (c.name-name.ensures, c.number-number.ensures) at c.in_ok-text.ensures.ok))
