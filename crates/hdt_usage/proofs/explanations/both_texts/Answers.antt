use Rattle.std.proofs.Common.{◌≡◌, ◌++◌, ◌∙◌, append_assoc, codes, refl, string_bytes}
use Rattle.std.proofs.lemmas.Result.{IfOk-weaker}
use Rattle.hdt_usage.proofs.explanations.both_texts.Goals as goal

pub returns : goal.returns
returns c =
    let line = string_bytes c.in_ok-line.line in
    let file = string_bytes c.in_ok-of_file.of_file in
    let text = string_bytes c.in_ok-of_text.of_text in
    IfOk-weaker c.format.result _ _ (λ s h.
    let all : string_bytes s ≡ line ++ codes "\n\n" ++ file ++ codes "\n\n" ++ text = simp append_assoc h in
    all ∙ rw (c.in_ok-line.ensures, c.in_ok-of_file.ensures, c.in_ok-of_text.ensures) refl) c.format.ensures.ok
