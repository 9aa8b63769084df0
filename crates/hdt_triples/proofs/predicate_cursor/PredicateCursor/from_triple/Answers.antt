use Rattle.std.proofs.Common.{arith, ◌≡◌, ◌<◌, ◌+◌, true, false, ap, sym, ◌∙◌, length}
use Rattle.hdt_seq.specs.Laws.Numbers.{numbers_below}
use Rattle.hdt_triples.specs.Views.{triples_view}
use Rattle.hdt_triples.specs.InvertedIndex.{positions_from}
use Rattle.hdt_triples.specs.TripleSequences.{pair_of}
use Rattle.hdt_triples.specs.Laws.Order.{pair_within}
use Rattle.hdt_triples.proofs.PositionListLaws.{list_ascends}
use Rattle.hdt_triples.proofs.StartLaws.{before_next_pair, positions_left, predicate_left, within_pair}
use Rattle.hdt_triples.proofs.predicate_cursor.PredicateCursor.from_triple.Goals as goal

pub overflow_add-position : goal.overflow_add-position
unfolding triples_view
overflow_add-position c =
    let t = c.args.indexed.now.triples in
    let e = c.position_at-position.ensures in
    omega (
      arith,
      numbers_below t.array_y,
      e.positioned.pair_is,
      ap (pair_of (triples_view t)) e.at,
      pair_within (triples_view t) t.valid.marked c.args.from c.requires.within,
    )

pub lower_bound-next-requires : goal.lower_bound-next-requires
lower_bound-next-requires c =
    record {
      ascend = list_ascends (triples_view c.args.indexed.now.triples).array_y c.args.pairs.now c.args.predicate
          c.requires.pairs;
    }

pub read_entry-requires : goal.read_entry-requires
unfolding triples_view
read_entry-requires c =
    let t = c.args.indexed.now.triples in
    let e = c.position_at-position.ensures in
    omega (
      arith,
      e.positioned.pair_is,
      ap (pair_of (triples_view t)) e.at,
      pair_within (triples_view t) t.valid.marked c.args.from c.requires.within,
    )

pub returns-then-read_entry-predicate-clause-positioned : goal.returns-then-read_entry-predicate-clause-positioned
unfolding triples_view
returns-then-read_entry-predicate-clause-positioned c =
    let t = c.args.indexed.now.triples in
    let f = triples_view t in
    let e = c.position_at-position.ensures in
    let q = c.position_at-position.result.pair in
    let b = c.lower_bound-next.ensures in
    let pair : q ≡ pair_of f c.args.from = e.positioned.pair_is ∙ ap (pair_of f) e.at in
    let within : q < length f.array_y =
    omega (arith, pair, pair_within f t.valid.marked c.args.from c.requires.within) in
    let rest : c.split_at.result.1.now ≡ positions_from f.array_y c.args.predicate (q + 1) =
    c.split_at.ensures.back ∙ positions_left f.array_y c.args.pairs.now c.args.predicate
    (q + 1) c.lower_bound-next.result c.requires.pairs (omega (arith, within)) b.high b.below b.above in
    record {
      between = λ u. let no : true ≡ false = u in absurd (cc);
      inside = λ u. within_pair f c.args.predicate q c.position_at-position.result.subject c.args.from
          c.split_at.result.1.now c.requires.within pair e.positioned.subject_is (sym c.read_entry.ensures.is
          ∙ c.if-read_entry-predicate.true) rest;
    }

pub end_of_pair-requires : goal.end_of_pair-requires
unfolding triples_view
end_of_pair-requires c =
    let t = c.args.indexed.now.triples in
    let e = c.position_at-position.ensures in
    omega (
      arith,
      e.positioned.pair_is,
      ap (pair_of (triples_view t)) e.at,
      pair_within (triples_view t) t.valid.marked c.args.from c.requires.within,
    )

pub returns-clause-positioned : goal.returns-clause-positioned
unfolding triples_view
returns-clause-positioned c =
    let t = c.args.indexed.now.triples in
    let f = triples_view t in
    let e = c.position_at-position.ensures in
    let q = c.position_at-position.result.pair in
    let b = c.lower_bound-next.ensures in
    let d = c.end_of_pair.ensures in
    let within : q < length f.array_y =
    omega (
      arith,
      e.positioned.pair_is,
      ap (pair_of f) e.at,
      pair_within f t.valid.marked c.args.from c.requires.within,
    ) in
    let rest : c.split_at.result.1.now ≡ positions_from f.array_y c.args.predicate (q + 1) =
    c.split_at.ensures.back ∙ positions_left f.array_y c.args.pairs.now c.args.predicate
    (q + 1) c.lower_bound-next.result c.requires.pairs (omega (arith, within)) b.high b.below b.above in
    record {
      between = λ u. before_next_pair f c.args.predicate q c.end_of_pair.result c.split_at.result.1.now d.within d.next
          d.below rest;
      inside = λ u. let no : false ≡ true = u in absurd (cc);
    }

pub returns-clause-left : goal.returns-clause-left
unfolding triples_view
returns-clause-left c =
    let f = triples_view c.args.indexed.now.triples in
    let e = c.position_at-position.ensures in
    let d = c.end_of_pair.ensures in
    predicate_left f c.args.predicate c.args.from c.position_at-position.result.pair c.end_of_pair.result
    (e.positioned.pair_is ∙ ap (pair_of f) e.at)
    (λ same. c.if-read_entry-predicate.false (c.read_entry.ensures.is ∙ same)) d.within d.below d.above
