use Rattle.std.proofs.Common.{◌++◌, ℕ, ap, ◌∙◌}
use Rattle.hdt_front.specs.Canonical.{canonical}
use Rattle.hdt_dict.specs.Split.{lists_of_writers}
use Rattle.hdt_dict.proofs.Appending.{appended}
use Rattle.hdt_dict.proofs.writing.append_finished.Goals as goal

pub returns-clause-ok : goal.returns-clause-ok
returns-clause-ok c =
    let a = c.args in
    let d = lists_of_writers a.shared a.subjects a.predicates a.objects in
    let u = ap (λ (b : ℕ). c.finish.new.out.items ++ canonical b c.args.subjects.strings) c.requires.blocks.0 in
    let p = ap (λ (b : ℕ). c.finish-2.new.out.items ++ canonical b c.args.predicates.strings) c.requires.blocks.1 in
    let o = ap (λ (b : ℕ). c.finish-3.new.out.items ++ canonical b c.args.objects.strings) c.requires.blocks.2 in
    appended a.shared.block_size d a.out.now.items _ _ _ _ _ c.in_ok-put_control.ensures.ok c.in_ok-finish.ensures.ok
    (c.in_ok-finish-2.ensures.ok ∙ u) (c.in_ok-finish-3.ensures.ok ∙ p) (c.in_ok-finish-4.ensures.ok ∙ o)
