use Rattle.std.proofs.Common.{◌∙◌, ap, sym, arith, Some}
use Rattle.hdt_seq.specs.Bits.{bits_of}
use Rattle.hdt_seq.specs.Laws.RankSelect.{ones_before_at_0, ones_before_after_1_bit, ones_before_after_0_bit}
use Rattle.hdt_seq.specs.Laws.RankSelect.{ones_before_le}
use Rattle.hdt_triples.proofs.checks.ones_before.Goals as goal
use Rattle.hdt_triples.proofs.checks.ones_before.Goals.{then-get, else-get}

pub marks-init : goal.marks-init
marks-init c = sym (ones_before_at_0 (bits_of c.args.marks.now))

pub overflow_add-before : goal.overflow_add-before
overflow_add-before c = omega (
  arith,
  c.marks.invariant,
  ones_before_le (bits_of c.args.marks.now) c.marks.i,
  c.marks-test.true,
)

pub marks-preserved : goal.marks-preserved
marks-preserved c =
    let bits = bits_of c.args.marks.now in
    elim c.if-get.branch [
      | then-get w ↦ omega (
        arith,
        w.before-is,
        c.marks.invariant,
        ones_before_after_1_bit bits c.marks.i (c.get.ensures ∙ ap Some w.if-get.true),
      )
      | else-get w ↦ omega (
        arith,
        w.before-is,
        c.marks.invariant,
        ones_before_after_0_bit bits c.marks.i (c.get.ensures ∙ ap Some w.if-get.false),
      )
    ]

pub returns-clause-most : goal.returns-clause-most
returns-clause-most c = omega (
  arith,
  c.marks.invariant,
  ones_before_le (bits_of c.args.marks.now) c.marks.i,
  c.marks-test.false,
)
