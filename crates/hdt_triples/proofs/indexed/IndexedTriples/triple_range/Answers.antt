use Rattle.std.proofs.Common.{arith, ap, Some, ◌∙◌}
use Rattle.hdt_seq.specs.Laws.Numbers.{numbers_below}
use Rattle.hdt_triples.specs.Views.{triples_view}
use Rattle.hdt_triples.proofs.MatchCountLaws.{one_triple}
use Rattle.hdt_triples.proofs.indexed.IndexedTriples.triple_range.Goals as goal

pub read_bit-requires : goal.read_bit-requires
unfolding triples_view
read_bit-requires c = omega (arith, c.start_of_pair-at.ensures.within, c.args.self.now.triples.valid.marked.triples)

pub overflow_add-result : goal.overflow_add-result
unfolding triples_view
overflow_add-result c = omega (arith, c.start_of_pair-at.ensures.within, numbers_below c.args.self.now.triples.array_z)

pub returns-then-read_bit-clause-are : goal.returns-then-read_bit-clause-are
unfolding triples_view
returns-then-read_bit-clause-are c =
    let e = c.start_of_pair-at.ensures in
    one_triple (triples_view c.args.self.now.triples) c.args.first c.args.last c.start_of_pair-at.result e.within e.is
    e.earlier c.if-first-last.true (c.read_bit.ensures.is ∙ ap Some c.if-read_bit.true)
