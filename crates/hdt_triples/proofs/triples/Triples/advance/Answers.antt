use Rattle.std.proofs.Common.{arith, ◌&&◌}
use Rattle.hdt_seq.specs.Laws.Numbers.{numbers_below}
use Rattle.hdt_triples.specs.Views.{triples_view}
use Rattle.hdt_triples.proofs.TriplePositionLaws.{at_most_one, advanced, subject_few, within_pairs}
use Rattle.hdt_triples.proofs.triples.Triples.advance.Goals as goal

pub read_bit-requires : goal.read_bit-requires
unfolding triples_view
read_bit-requires c =
    let t = c.args.self.now in
    omega (
      arith,
      t.valid.marked.pairs,
      within_pairs (triples_view t) c.args.position t.valid.marked c.requires.positioned c.requires.within,
    )

pub overflow_add-result : goal.overflow_add-result
unfolding triples_view
overflow_add-result c = omega (arith, numbers_below c.args.self.now.array_z, c.requires.within)

pub overflow_add-result-2 : goal.overflow_add-result-2
unfolding triples_view
overflow_add-result-2 c =
    let t = c.args.self.now in
    omega (
      arith,
      numbers_below t.array_y,
      within_pairs (triples_view t) c.args.position t.valid.marked c.requires.positioned c.requires.within,
      at_most_one c.read_bit-is_last_of_pair.result c.from.result c.from.ensures,
    )

pub overflow_add-result-3 : goal.overflow_add-result-3
unfolding triples_view
overflow_add-result-3 c =
    let t = c.args.self.now in
    omega (
      arith,
      t.few,
      subject_few t.counts (triples_view t) c.args.position t.valid c.requires.positioned c.requires.within,
      at_most_one (c.read_bit-is_last_of_pair.result && c.read_bit.result) c.from-2.result c.from-2.ensures,
    )

pub returns-clause-positioned : goal.returns-clause-positioned
unfolding triples_view
returns-clause-positioned c =
    advanced (triples_view c.args.self.now) c.args.position c.read_bit-is_last_of_pair.result c.read_bit.result
    c.from.result c.from-2.result c.requires.positioned c.requires.within
    c.read_bit-is_last_of_pair.ensures.is c.read_bit.ensures.is c.from.ensures c.from-2.ensures
