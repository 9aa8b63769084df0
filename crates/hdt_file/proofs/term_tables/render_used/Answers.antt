use Rattle.std.proofs.Common.{List, Bool, subst}
use Rattle.hdt_file.specs.Graph.{layout_view}
use Rattle.hdt_file.specs.Inside.RenderedTerms.{AreRendered}
use Rattle.hdt_dict.specs.Dictionary.{role_strings}
use Rattle.hdt_file.proofs.RenderedTermLaws.{at, used_is_marked}
use Rattle.hdt_file.proofs.term_tables.render_used.Goals as goal

pub returns : goal.returns
returns c =
    let role = c.args.role in
    let all = role_strings (layout_view c.args.layout.now).dictionary role in
    λ i below. at role c.in_ok-marks.marks.items all c.in_ok-render_marked.field-0 _
    (subst (λ (marks : List Bool). AreRendered role marks 1 all c.in_ok-render_marked.field-0) c.deref.ensures.value
    c.in_ok-render_marked.ensures)
    (used_is_marked c.args.triples.now role c.in_ok-marks.marks.items c.in_ok-marks.ensures.exact i below)
