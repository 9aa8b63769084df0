use Rattle.std.proofs.Common.{arith, below_more, get_or, add-one, refl}
use Rattle.std.proofs.Math.Nat.{pow-suc}
use Rattle.std.proofs.lemmas.Grind.{common_steps}
use Rattle.hdt_wire.proofs.VByteReading.{ValueSoFar-fit, digit_fits, base128_value_more, no_last}
use Rattle.hdt_wire.specs.Laws.VByte.{first_last}
use Rattle.hdt_wire.proofs.vbyte.number_in.Goals as goal

pub overflow_add-value : goal.overflow_add-value
overflow_add-value c =
    let p = ValueSoFar-fit c.args.seen.now c.loop-i.i c.loop-i.value c.loop-i.scale c.loop-i.invariant
    c.loop-i-test.true c.requires in
    let d = digit_fits (get_or c.args.seen.now c.loop-i.i 0) c.loop-i.value c.loop-i.scale p.0 p.1 in
    grind (arith, common_steps, d)

pub returns-then-byte-ge128-clause-found : goal.returns-then-byte-ge128-clause-found
returns-then-byte-ge128-clause-found c = (
  first_last c.args.seen.now c.loop-i.i c.loop-i-test.true c.loop-i.invariant.low c.if-byte-ge128.true,
  c.loop-i-test.true,
)

pub returns-then-byte-ge128-clause-value : goal.returns-then-byte-ge128-clause-value
returns-then-byte-ge128-clause-value c =
    rw c.from.ensures (base128_value_more c.args.seen.now c.loop-i.i c.loop-i.value c.loop-i.scale c.loop-i.invariant
    c.loop-i-test.true)

pub overflow_mul-scale : goal.overflow_mul-scale
overflow_mul-scale c =
    let p = ValueSoFar-fit c.args.seen.now c.loop-i.i c.loop-i.value c.loop-i.scale c.loop-i.invariant
    c.loop-i-test.true c.requires in
    grind (arith, p.1)

pub loop-i-preserved : goal.loop-i-preserved
loop-i-preserved c = record {
  is_number = rw c.from.ensures
      (base128_value_more c.args.seen.now c.loop-i.i c.loop-i.value c.loop-i.scale c.loop-i.invariant
      c.loop-i-test.true);
  is_scale = rw (add-one, pow-suc, c.loop-i.invariant.is_scale) refl;
  low = below_more _ _ c.loop-i.invariant.low c.if-byte-ge128.false;
}

pub returns-clause-none : goal.returns-clause-none
returns-clause-none c = no_last c.args.seen.now (λ k lt. c.loop-i.invariant.low k (omega arith))
