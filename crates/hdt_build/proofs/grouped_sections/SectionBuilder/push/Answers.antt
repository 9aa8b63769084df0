use Rattle.std.proofs.Common.{◌≡◌, ◌∙◌, Bool, true, false, cond, [], ◌∷◌, ◌++◌, List, ap, sym, subst}
use Rattle.hdt_build.specs.Inside.GroupedSections.{BuilderState, HasGroups}
use Rattle.hdt_build.specs.Inside.Groups.{AreGroups, Group, group_of}
use Rattle.hdt_build.proofs.SectionBuilders.{added, begun, equal, last_below}
use Rattle.hdt_build.proofs.grouped_sections.SectionBuilder.push.Goals as goal

not_both : {X : Type 0} (b : Bool) → b ≡ true → b ≡ false → X
not_both b is not_so = let e : true ≡ false = sym is ∙ not_so in absurd (cc)

pub returns-in-Equal : goal.returns-in-Equal
returns-in-Equal g c = λ n gs numbers had.
    let b = c.self.inside in
    let h = subst (λ (s : BuilderState). HasGroups n s gs numbers) (sym c.self.view_is) had in
    let last = group_of b.text.items b.roles in
    let compared = rw (sym c.self.view_is) at c.cmp.ensures in
    let is = equal b.has_current c.args.text.now b.text.items (sym compared ∙ c.in-Equal.is) in
    let all = subst (λ (has : Bool). gs ≡ h.closed ++ cond has (last ∷ []) []) is.0 h.all in (
      h.closed,
      last,
      all,
      is.1,
      record {
        closed = h.closed;
        all = rw is.0 (ap (λ (f : Group). h.closed ++ f ∷ []) (sym (c.with-self-inside.ensures b.text.items)));
        first = h.first;
        written = h.written;
        groups = added h.closed last c.args.role (subst AreGroups all h.groups);
      },
    )

pub returns-in_ok-begin-in-Greater : goal.returns-in_ok-begin-in-Greater
returns-in_ok-begin-in-Greater g c = λ n gs numbers h.
    let b = c.args.self.now in
    let e = c.in_ok-begin-in-Greater.ensures in
    record {
      closed = gs;
      all = ap (λ (l : List Group). gs ++ l) (sym e.begun);
      first = λ none. not_both _ e.has none;
      written = rw e.kept (c.in_ok-codes-in-Greater.ensures n gs numbers h);
      groups = begun gs c.args.text.now c.args.role h.groups
          (c.is_dictionary_string.ensures.0 c.if-not-is_dictionary_string.false)
          (last_below b.has_current h.closed gs (group_of b.text b.roles) c.args.text.now h.all h.first
          (sym c.cmp.ensures ∙ c.in-Greater.is));
    }
