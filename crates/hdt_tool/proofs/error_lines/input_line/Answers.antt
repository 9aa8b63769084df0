use Rattle.std.proofs.Common.{append_assoc}
use Rattle.std.proofs.lemmas.Result.{IfOk-weaker}
use Rattle.hdt_tool.proofs.error_lines.input_line.Goals as goal

pub returns : goal.returns
returns c = IfOk-weaker c.format.result _ _
    (λ s h. simp append_assoc (simp (c.name-name.ensures, c.number-number.ensures) at h)) c.format.ensures.ok
