use Rattle.std.proofs.Common.{◌∙◌, ◌*◌, ap, sym}
use Rattle.hdt_triples.specs.Laws.TripleSequences.{length-triples}
use Rattle.hdt_triples.specs.Views.{triples_view}
use Rattle.hdt_file.specs.Graph.{parts_of_layout, layout_view}
use Rattle.hdt_file.proofs.layout.Layout.search.Goals as goal

pub returns-clause-few : goal.returns-clause-few
unfolding layout_view parts_of_layout
returns-clause-few c = c.find.ensures.few
    ∙ ap (λ n. 4 * n) (sym (length-triples (triples_view c.args.self.now.triples)))
