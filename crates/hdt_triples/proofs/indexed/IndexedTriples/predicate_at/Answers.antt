use Rattle.std.proofs.Common.{arith}
use Rattle.hdt_triples.specs.Views.{triples_view}
use Rattle.hdt_triples.specs.Laws.Order.{pair_within}
use Rattle.hdt_triples.proofs.indexed.IndexedTriples.predicate_at.Goals as goal

pub read_entry-requires : goal.read_entry-requires
unfolding triples_view
read_entry-requires c = let t = c.args.self.now.triples in
    omega (arith, c.rank-pair.ensures.is, pair_within (triples_view t) t.valid.marked c.args.at c.requires)
