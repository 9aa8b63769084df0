use Rattle.hdt_build.proofs.MergedFiles.{merged_again, merged_apart, merged_is_built}
use Rattle.hdt_build.proofs.laws.merging_is_building.Goals as goal

pub returns-clause-built : goal.returns-clause-built
returns-clause-built c = merged_is_built
    (λ f g layout. c.one_layout.ensures.one f.bytes f.graph g f.are_bytes f.small f.layout layout)

pub returns-clause-apart : goal.returns-clause-apart
returns-clause-apart c = merged_apart
    (λ f g layout. c.one_layout.ensures.one f.bytes f.graph g f.are_bytes f.small f.layout layout)
    (λ text term encoded. c.text_encodes_one_term.ensures.grammar text term encoded)

pub returns-clause-merged : goal.returns-clause-merged
returns-clause-merged c = merged_again
    (λ f g layout. c.one_layout.ensures.one f.bytes f.graph g f.are_bytes f.small f.layout layout)
