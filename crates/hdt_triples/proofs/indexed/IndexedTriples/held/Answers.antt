use Rattle.std.proofs.Common.{arith}
use Rattle.hdt_seq.specs.Bits.{bits_of}
use Rattle.hdt_seq.specs.Laws.Bits.{bits_below}
use Rattle.hdt_triples.specs.Views.{triples_view}
use Rattle.hdt_triples.proofs.indexed.IndexedTriples.held.Goals as goal

pub overflow_add-result : goal.overflow_add-result
unfolding triples_view
overflow_add-result c =
    let t = c.args.self.now in
    omega (
      arith,
      bits_below t.triples.bitmap_y,
      bits_below t.triples.bitmap_z,
      c.held.ensures.groups (bits_of t.triples.bitmap_y) t.y_counted,
      c.held-2.ensures.groups (bits_of t.triples.bitmap_z) t.z_counted,
    )
