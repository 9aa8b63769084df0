use Rattle.std.proofs.Common.{◌++◌, ap, ◌∙◌}
use Rattle.hdt_front.specs.Canonical.{canonical, texts}
use Rattle.hdt_dict.specs.Split.{lists_of_parts}
use Rattle.hdt_dict.proofs.Appending.{appended}
use Rattle.hdt_dict.proofs.writing.append_dictionary.Goals as goal

pub returns-clause-ok : goal.returns-clause-ok
unfolding lists_of_parts
returns-clause-ok c =
    let b = c.args.block_size in
    let s = ap (λ l. c.put_control.new.out.items ++ canonical b (texts l)) c.as_slice.ensures.value in
    let u = ap (λ l. c.put_section.new.out.items ++ canonical b (texts l)) c.as_slice-2.ensures.value in
    let p = ap (λ l. c.put_section-2.new.out.items ++ canonical b (texts l)) c.as_slice-3.ensures.value in
    let o = ap (λ l. c.put_section-3.new.out.items ++ canonical b (texts l)) c.as_slice-4.ensures.value in
    appended b (lists_of_parts c.args.parts.now) c.args.out.now.items _ _ _ _ _ c.in_ok-put_control.ensures.ok
    (c.in_ok-put_section.ensures.ok ∙ s) (c.in_ok-put_section-2.ensures.ok ∙ u) (c.in_ok-put_section-3.ensures.ok
    ∙ p) (c.in_ok-put_section-4.ensures.ok ∙ o)
