use Rattle.std.proofs.Common.{ap, sym, ◌∙◌}
use Rattle.hdt_dict.specs.Inside.Overlap.{check_not_found}
use Rattle.hdt_dict.proofs.DisjointChecks.{no_overlap}
use Rattle.hdt_dict.proofs.disjoint.check_disjoint.Goals as goal

pub returns-in-None : goal.returns-in-None
returns-in-None c = sym (no_overlap c.args.shared.now c.args.other c.args.section.now)
    ∙ ap check_not_found (sym c.in_ok-find_overlap.ensures ∙ c.in-None.is)

pub returns-in-Some : goal.returns-in-Some
returns-in-Some c = sym (no_overlap c.args.shared.now c.args.other c.args.section.now)
    ∙ ap check_not_found (sym c.in_ok-find_overlap.ensures ∙ c.in-Some.is)
