use Rattle.std.proofs.Common.{arith, ◌+◌}
use Rattle.hdt_triples.specs.Views.{triples_view}
use Rattle.hdt_seq.specs.Laws.RankSelect.{ones_before_mono}
use Rattle.hdt_seq.specs.Laws.Bits.{bits_below}
use Rattle.hdt_seq.specs.Laws.Numbers.{numbers_below}
use Rattle.hdt_triples.proofs.indexed.IndexedTriples.end_of_pair.Goals as goal

pub returns-clause-below : goal.returns-clause-below
unfolding triples_view
returns-clause-below c = λ i h. omega (
  arith,
  ones_before_mono (triples_view c.args.self.now.triples).bitmap_z i c.select.result (omega (arith, h)),
  c.select.ensures.is.before,
)

pub returns-clause-above : goal.returns-clause-above
unfolding triples_view
returns-clause-above c = λ i h. omega (
  arith,
  ones_before_mono (triples_view c.args.self.now.triples).bitmap_z (c.select.result + 1) i h,
  c.select.ensures.through,
)

pub overflow_add-pair : goal.overflow_add-pair
unfolding triples_view
overflow_add-pair c = omega (arith, numbers_below c.args.self.now.triples.array_y, c.requires)

pub overflow_add-result : goal.overflow_add-result
overflow_add-result c = omega (arith, bits_below c.args.self.now.triples.bitmap_z, c.select.ensures.within)
