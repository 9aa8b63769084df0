use Rattle.std.proofs.Common.{arith}
use Rattle.hdt_seq.specs.Laws.Bits.{bits_below}
use Rattle.hdt_triples.specs.Views.{triples_view}
use Rattle.hdt_triples.specs.Laws.Order.{pair_within}
use Rattle.hdt_triples.proofs.triples.Triples.get.Goals as goal

pub ones_before-subject-requires : goal.ones_before-subject-requires
unfolding triples_view
ones_before-subject-requires c =
    let t = c.args.self.now in
    omega (
      arith,
      c.ones_before-pair.ensures.is,
      pair_within (triples_view t) t.valid.marked c.args.j c.requires,
      t.valid.marked.pairs,
    )

pub overflow_add-subject : goal.overflow_add-subject
unfolding triples_view
overflow_add-subject c =
    let t = c.args.self.now in
    omega (
      arith,
      c.ones_before-subject.ensures.most,
      c.ones_before-pair.ensures.is,
      pair_within (triples_view t) t.valid.marked c.args.j c.requires,
      t.valid.marked.pairs,
      bits_below t.bitmap_y,
    )

pub get-requires : goal.get-requires
unfolding triples_view
get-requires c =
    let t = c.args.self.now in
    omega (arith, c.ones_before-pair.ensures.is, pair_within (triples_view t) t.valid.marked c.args.j c.requires)
