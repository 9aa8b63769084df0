use Rattle.std.proofs.Common.{arith, ap, refl, ◌+◌, ◌≡◌, true, false}
use Rattle.hdt_triples.specs.Views.{triples_view}
use Rattle.hdt_seq.specs.Laws.RankSelect.{ones_before_le}
use Rattle.hdt_triples.proofs.InvertedIndexLaws.{split_rest}
use Rattle.hdt_triples.proofs.PredicateLaws.{next_of, predicate_entered, inside_entered}
use Rattle.hdt_seq.specs.Laws.Numbers.{numbers_below}
use Rattle.hdt_triples.proofs.predicate_cursor.PredicateCursor.enter_pair.Goals as goal

pub rank-subject-requires : goal.rank-subject-requires
unfolding triples_view
rank-subject-requires c =
    let t = c.args.indexed.now.triples in
    let split = split_rest c.args.self.rest.now _ c.read_list-pair.result
    (c.requires.some c.if-self.false) c.read_list-pair.ensures.is refl in
    omega (
      arith,
      (next_of (triples_view t) c.args.predicate c.args.self.at c.read_list-pair.result c.args.self.rest.now
          _ (c.requires.positioned.between c.if-self.false) split).within,
      t.valid.marked.pairs,
    )

pub overflow_add-subject : goal.overflow_add-subject
unfolding triples_view
overflow_add-subject c =
    let t = c.args.indexed.now.triples in
    let split = split_rest c.args.self.rest.now _ c.read_list-pair.result
    (c.requires.some c.if-self.false) c.read_list-pair.ensures.is refl in
    omega (
      arith,
      (next_of (triples_view t) c.args.predicate c.args.self.at c.read_list-pair.result c.args.self.rest.now _
          (c.requires.positioned.between c.if-self.false) split).within,
      numbers_below t.array_y,
      c.rank-subject.ensures.is,
      ones_before_le (triples_view t).bitmap_y c.read_list-pair.result,
    )

pub start_of_pair-at-requires : goal.start_of_pair-at-requires
start_of_pair-at-requires c =
    let split = split_rest c.args.self.rest.now _ c.read_list-pair.result
    (c.requires.some c.if-self.false) c.read_list-pair.ensures.is refl in
    (next_of (triples_view c.args.indexed.now.triples) c.args.predicate c.args.self.at c.read_list-pair.result
    c.args.self.rest.now _ (c.requires.positioned.between c.if-self.false) split).within

pub returns-clause-positioned : goal.returns-clause-positioned
unfolding triples_view
returns-clause-positioned c =
    let split = split_rest c.args.self.rest.now c.split_at.result.1.now c.read_list-pair.result
    (c.requires.some c.if-self.false) c.read_list-pair.ensures.is c.split_at.ensures.back in
    let e = c.start_of_pair-at.ensures in
    record {
      between = λ u. let no : true ≡ false = u in absurd (cc);
      inside = λ u. inside_entered (triples_view c.args.indexed.now.triples) c.args.predicate c.read_list-pair.result
          c.args.self.at c.start_of_pair-at.result _ c.args.self.rest.now c.split_at.result.1.now
          (c.requires.positioned.between c.if-self.false) split
          (record { within = e.within; is = e.is; earlier = e.earlier })
          (ap (λ n. n + 1) c.rank-subject.ensures.is);
    }

pub returns-clause-left : goal.returns-clause-left
unfolding triples_view
returns-clause-left c =
    let split = split_rest c.args.self.rest.now c.split_at.result.1.now c.read_list-pair.result
    (c.requires.some c.if-self.false) c.read_list-pair.ensures.is c.split_at.ensures.back in
    let e = c.start_of_pair-at.ensures in
    predicate_entered (triples_view c.args.indexed.now.triples) c.args.predicate c.read_list-pair.result c.args.self.at
    c.start_of_pair-at.result c.args.self.rest.now c.split_at.result.1.now c.args.indexed.now.triples.valid.marked
    (c.requires.positioned.between c.if-self.false) split (record { within = e.within; is = e.is; earlier = e.earlier })
