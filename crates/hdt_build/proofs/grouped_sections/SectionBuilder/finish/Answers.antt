use Rattle.std.proofs.Common.{◌∙◌, ◌++◌, ap, subst, sym}
use Rattle.hdt_build.specs.Inside.GroupedSections.{BuilderState}
use Rattle.hdt_build.specs.Inside.Groups.{AreFinished, numbers_of_codes, SectionStates}
use Rattle.hdt_build.proofs.Groups.{finished}
use Rattle.hdt_build.proofs.grouped_sections.SectionBuilder.finish.Goals as goal

pub returns : goal.returns
returns g c = λ n gs numbers h.
    subst (λ (s : SectionStates). AreFinished n s gs (numbers ++ numbers_of_codes c.in_ok-codes.codes))
    (sym (c.in_ok-finish_sections.ensures ∙ ap (λ (b : BuilderState). b.sections) c.self.view_is))
    (finished n _ gs _ (c.in_ok-codes.ensures n gs numbers h) h.groups)
