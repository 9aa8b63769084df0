use Rattle.std.proofs.Common.{◌∙◌, ap, sym, arith, Some, length}
use Rattle.hdt_seq.specs.Bits.{bits_of, bits_view}
use Rattle.hdt_seq.specs.Numbers.{numbers_of, numbers_view}
use Rattle.hdt_seq.specs.Laws.RankSelect.{ones_before_at_0, ones_before_after_1_bit, ones_before_after_0_bit}
use Rattle.hdt_triples.specs.Triples.{pair_checks}
use Rattle.hdt_wire.specs.Laws.ItemChecks.{checks_after_pass, checks_from_start}
use Rattle.hdt_triples.proofs.PreviousLaws.{earlier_first, earlier_marked, earlier_unmarked}
use Rattle.hdt_triples.proofs.checks.check_pairs.Goals as goal
use Rattle.hdt_triples.proofs.checks.check_pairs.Goals.{then-get, else-get}

pub pairs-init : goal.pairs-init
pairs-init c =
    let bitmap_y = bits_of c.args.bitmap_y.now in
    let array_y = numbers_of c.args.array_y.now in
    record {
      subject_is = omega (arith, ones_before_at_0 bitmap_y);
      before_is = sym (earlier_first bitmap_y array_y);
      left = checks_from_start (pair_checks c.args.counts.now (bits_view (c.args.bitmap_y.now, 0))
          (numbers_view (c.args.array_y.now, 0))) (length array_y);
    }

pub pairs-preserved : goal.pairs-preserved
pairs-preserved c =
    let l = c.pairs in
    let bitmap_y = bits_of c.args.bitmap_y.now in
    let array_y = numbers_of c.args.array_y.now in
    let within = c.len-q-end.ensures in
    let row =
    pair_checks c.args.counts.now (bits_view (c.args.bitmap_y.now, 0)) (numbers_view (c.args.array_y.now, 0)) in
    let passed = checks_after_pass row l.q (length array_y) (omega (arith, c.pairs-test.true, within))
    (sym c.check_pair.ensures.is ∙ c.in_ok-check_pair.was) in
    elim c.if-get.branch [
      | then-get w ↦ record {
        subject_is = omega (
          arith,
          w.subject-is,
          l.invariant.subject_is,
          ones_before_after_1_bit bitmap_y l.q (c.get.ensures ∙ ap Some w.if-get.true),
        );
        before_is = w.before-is ∙ sym (earlier_marked bitmap_y array_y l.q (c.get.ensures ∙ ap Some w.if-get.true));
        left = sym passed ∙ l.invariant.left;
      }
      | else-get w ↦ record {
        subject_is = omega (
          arith,
          w.subject-is,
          l.invariant.subject_is,
          ones_before_after_0_bit bitmap_y l.q (c.get.ensures ∙ ap Some w.if-get.false),
        );
        before_is = w.before-is ∙ c.get-predicate.ensures
            ∙ sym (earlier_unmarked bitmap_y array_y l.q (c.get.ensures ∙ ap Some w.if-get.false));
        left = sym passed ∙ l.invariant.left;
      }
    ]
