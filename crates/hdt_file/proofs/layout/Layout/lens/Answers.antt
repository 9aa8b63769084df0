use Rattle.std.proofs.Common.{refl}
use Rattle.hdt_dict.specs.Views.{dictionary_of}
use Rattle.hdt_triples.specs.Laws.TripleSequences.{length-triples}
use Rattle.hdt_triples.specs.Views.{triples_view}
use Rattle.hdt_file.specs.Graph.{parts_of_layout, layout_view}
use Rattle.hdt_file.proofs.layout.Layout.lens.Goals as goal

pub returns : goal.returns
unfolding layout_view parts_of_layout dictionary_of
returns c = rw (c.section_lens.ensures, c.len.ensures, length-triples (triples_view c.args.self.now.triples)) refl
