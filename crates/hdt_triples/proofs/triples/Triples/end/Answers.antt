use Rattle.std.proofs.Common.{arith}
use Rattle.hdt_triples.specs.Views.{triples_view}
use Rattle.hdt_triples.proofs.TriplePositionLaws.{subjects_few}
use Rattle.hdt_triples.proofs.triples.Triples.end.Goals as goal

pub overflow_add-result : goal.overflow_add-result
unfolding triples_view
overflow_add-result c = let t = c.args.self.now in
    omega (arith, t.few, c.requires, subjects_few t.counts (triples_view t) t.valid)
