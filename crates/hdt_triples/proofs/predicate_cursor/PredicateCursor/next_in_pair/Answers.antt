use Rattle.hdt_triples.specs.Views.{triples_view}
use Rattle.hdt_triples.proofs.PredicateLaws.{advanced_cursor}
use Rattle.std.proofs.Common.{arith}
use Rattle.hdt_seq.specs.Laws.Numbers.{numbers_below}
use Rattle.hdt_triples.proofs.predicate_cursor.PredicateCursor.next_in_pair.Goals as goal

pub returns-clause-positioned : goal.returns-clause-positioned
unfolding triples_view
returns-clause-positioned c =
    λ p st. advanced_cursor (triples_view c.args.triples.now) p c.args.self c.read_bit-last.result
    c.args.triples.now.valid.marked c.requires.inside c.read_bit-last.ensures.is st

pub overflow_add-result : goal.overflow_add-result
unfolding triples_view
overflow_add-result c = omega (arith, numbers_below c.args.triples.now.array_z, c.requires.within)
