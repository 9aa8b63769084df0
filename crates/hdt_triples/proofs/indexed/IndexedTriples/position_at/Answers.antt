use Rattle.std.proofs.Common.{arith}
use Rattle.hdt_triples.specs.Views.{triples_view}
use Rattle.hdt_triples.specs.Laws.Order.{pair_within}
use Rattle.hdt_triples.proofs.indexed.IndexedTriples.position_at.Goals as goal

pub subject_of_pair-subject-requires : goal.subject_of_pair-subject-requires
unfolding triples_view
subject_of_pair-subject-requires c = let t = c.args.self.now.triples in
    omega (arith, c.rank-pair.ensures.is, pair_within (triples_view t) t.valid.marked c.args.at c.requires)
