use Rattle.hdt_wire.specs.Laws.Exact.{viewed_exact}
use Rattle.hdt_triples.specs.Triples.{TripleParts, IsTriplesAt, decode_triple_parts}
use Rattle.hdt_triples.specs.Laws.Triples.{triples_exact}
use Rattle.hdt_triples.specs.Views.{triple_parts_view}
use Rattle.hdt_triples.proofs.writing.triples_are_exact.Goals as goal

pub returns-clause-viewed : goal.returns-clause-viewed
returns-clause-viewed c = λ counts bytes at fits.
    viewed_exact triple_parts_view (decode_triple_parts counts bytes at)
    (λ (t : TripleParts). IsTriplesAt counts t bytes at) (triples_exact counts bytes at fits)
