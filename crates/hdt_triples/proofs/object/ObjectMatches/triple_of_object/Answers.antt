use Rattle.std.proofs.Common.{arith}
use Rattle.hdt_triples.specs.Views.{triples_view}
use Rattle.hdt_seq.specs.Laws.RankSelect.{ones_before_le}
use Rattle.hdt_triples.specs.Laws.Order.{pair_within}
use Rattle.hdt_seq.specs.Laws.Numbers.{numbers_below}
use Rattle.hdt_triples.proofs.object.ObjectMatches.triple_of_object.Goals as goal

pub read_entry-predicate-requires : goal.read_entry-predicate-requires
unfolding triples_view
read_entry-predicate-requires c = let t = c.args.indexed.now.triples in
    omega (arith, c.rank-pair.ensures.is, pair_within (triples_view t) t.valid.marked c.args.at c.requires.0)

pub rank-subject-requires : goal.rank-subject-requires
unfolding triples_view
rank-subject-requires c = let t = c.args.indexed.now.triples in
    record {
      is_directory = c.args.indexed.now.y_counted;
      within =
          omega (
            arith,
            c.rank-pair.ensures.is,
            t.valid.marked.pairs,
            pair_within (triples_view t) t.valid.marked c.args.at c.requires.0,
          );
    }

pub overflow_add-subject : goal.overflow_add-subject
unfolding triples_view
overflow_add-subject c = let t = c.args.indexed.now.triples in
    omega (
      arith,
      numbers_below t.array_y,
      c.rank-subject.ensures.is,
      ones_before_le (triples_view t).bitmap_y c.rank-pair.result,
      c.rank-pair.ensures.is,
      t.valid.marked.pairs,
      pair_within (triples_view t) t.valid.marked c.args.at c.requires.0,
    )
