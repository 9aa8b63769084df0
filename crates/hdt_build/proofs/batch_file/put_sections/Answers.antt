use Rattle.std.proofs.Common.{◌++◌, ℕ, subst, sym}
use Rattle.std.proofs.lemmas.Result.{IfOk-weaker}
use Rattle.hdt_front.specs.Canonical.{canonical}
use Rattle.hdt_build.specs.Inside.Groups.{HaveSize, SectionStates}
use Rattle.hdt_build.specs.Inside.Output.{Puts}
use Rattle.hdt_build.proofs.Outputs.{puts_then}
use Rattle.hdt_build.proofs.batch_file.put_sections.Goals as goal

pub returns : goal.returns
returns g c =
    let s = c.sections.inside in
    IfOk-weaker c.put-4.result _ _
    (λ made last known n sized.
    let size = subst (HaveSize n) (sym c.sections.view_is) sized in
    subst (λ (t : SectionStates). Puts c.args.out made (canonical n t.shared.strings ++ (canonical n t.subjects.strings
    ++ (canonical n t.predicates.strings ++ canonical n t.objects.strings)))) c.sections.view_is
    (puts_then _ _ _ _ _
    (subst (λ (b : ℕ). Puts c.args.out c.in_ok-out.out (canonical b s.shared.strings)) size.shared
    (c.in_ok-out.ensures known))
    (puts_then _ _ _ _ _
    (subst (λ (b : ℕ). Puts c.in_ok-out.out c.in_ok-out-2.out (canonical b s.subjects.strings)) size.subjects
    (c.in_ok-out-2.ensures known))
    (puts_then _ _ _ _ _
    (subst (λ (b : ℕ). Puts c.in_ok-out-2.out c.in_ok-out-3.out (canonical b s.predicates.strings)) size.predicates
    (c.in_ok-out-3.ensures known))
    (subst (λ (b : ℕ). Puts c.in_ok-out-3.out made (canonical b s.objects.strings)) size.objects (last known))))))
    c.put-4.ensures
