use Rattle.hdt_triples.specs.Views.{triples_view}
use Rattle.hdt_triples.proofs.TriplePositionLaws.{within_pairs}
use Rattle.hdt_triples.proofs.triples.Triples.read_triple.Goals as goal

pub read_entry-requires : goal.read_entry-requires
unfolding triples_view
read_entry-requires c = let t = c.args.self.now in
    within_pairs (triples_view t) c.args.position t.valid.marked c.requires.positioned c.requires.within
