use Rattle.std.proofs.Common.{◌≡◌, Bool, cond, [], ◌∷◌, ◌++◌, subst, sym}
use Rattle.hdt_build.specs.Inside.GroupedSections.{BuilderState, HasGroups}
use Rattle.hdt_build.specs.Inside.Groups.{group_of}
use Rattle.hdt_build.proofs.Groups.{written_on}
use Rattle.hdt_build.proofs.grouped_sections.SectionBuilder.close.Goals as goal

pub returns : goal.returns
returns g c = λ n gs numbers had.
    let b = c.self.inside in
    let h = subst (λ (s : BuilderState). HasGroups n s gs numbers) (sym c.self.view_is) had in
    let last = group_of b.text.items b.roles in
    let all = subst (λ (has : Bool). gs ≡ h.closed ++ cond has (last ∷ []) []) c.if-not-self.false h.all in
    rw all (written_on n b.sections c.write_group.new.sections h.closed numbers last c.in_ok-codes.codes h.written
    (rw c.deref.ensures.value at c.in_ok-codes.ensures))
