use Rattle.hdt_wire.specs.declared.Role.TheVariants.{Subject, Predicate, Object}
use Rattle.hdt_file.specs.Graph.{layout_view}
use Rattle.hdt_file.proofs.RenderedTermLaws.{line_made}
use Rattle.hdt_file.proofs.WindowLaws.{term_after}
use Rattle.hdt_file.proofs.short_text.append_window_line.Goals as goal

pub returns-clause-ok : goal.returns-clause-ok
returns-clause-ok c =
    let g = layout_view c.args.layout.now in
    let h = c.in-Some.ensures g c.requires.window in
    line_made g c.args.triple _ _ _ _
    (term_after Subject _ _ _ _ h.subject c.in_ok-extend_from_slice.ensures.items)
    (term_after Predicate _ _ _ _ h.predicate c.in_ok-extend_from_slice-2.ensures.items)
    (term_after Object _ _ _ _ h.object c.in_ok-extend_from_slice-3.ensures.items)
