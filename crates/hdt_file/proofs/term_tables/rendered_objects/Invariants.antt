use Rattle.std.proofs.Common.{◌≡◌, map, take}
use Rattle.hdt_file.specs.Inside.RenderedTerms.{rendered_string}
use Rattle.hdt_file.proofs.term_tables.rendered_objects.Given as goal

abbrev pub invariant-triples : goal.invariant-triples
invariant-triples l = map (λ x. x.now) l.made.items
    ≡ map (λ t. rendered_string l.tables.objects t.2) (take l.triple-index l.triples)
