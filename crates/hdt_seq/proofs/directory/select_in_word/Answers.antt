use Rattle.std.proofs.Common.{◌≡◌, ◌≤◌, ◌+◌, ◌-◌, ◌*◌, ◌%◌, ◌^◌, ◌∙◌, arith, ap, suc, cond, refl, subst, nat_lt, inl}
use Rattle.std.proofs.Common.{inr}
use Rattle.std.proofs.lemmas.Bool.{cases_lt}
use Rattle.std.proofs.Math.Nat.{pow-suc}
use Rattle.std.proofs.lemmas.Nat.{one_shl}
use Rattle.std.specs.Int.Count.{ones}
use Rattle.hdt_seq.proofs.OnesOfWords.{halved, ones_none, ones_step, ones_up}
use Rattle.hdt_seq.proofs.directory.select_in_word.Goals as goal

pub loop-left-init : goal.loop-left-init
loop-left-init c =
    let all : c.args.width + (64 - c.args.width) ≡ 64 = omega (arith, c.requires.narrow) in
    record {
      left = omega arith;
      room = omega arith;
      before = omega (arith, ones_none c.args.word, c.requires.some);
      through = omega (
        arith,
        c.requires.many,
        ones_up c.args.word c.args.width (64 - c.args.width),
        ap (λ m. ones (c.args.word % 2 ^ m)) all,
      );
    }

pub loop-left-preserved : goal.loop-left-preserved
loop-left-preserved c =
    let l = c.loop-left in
    let size = 2 ^ (l.left - 1) in
    let half : 1 * 2 ^ (l.left - 1) % 2 ^ 64 ≡ 2 ^ (l.left - 1) =
    one_shl (l.left - 1) 64 (omega (arith, l.invariant.left, c.loop-left-test.true)) in
    let up : l.left ≡ suc (l.left - 1) = omega (arith, c.loop-left-test.true) in
    let two : 2 ^ l.left ≡ 2 ^ (l.left - 1) + 2 ^ (l.left - 1) = ap (λ m. 2 ^ m) up ∙ pow-suc 2 (l.left - 1)
    ∙ (omega arith) in
    let here = halved (nat_lt (ones (c.args.word % 2 ^ (l.low + size))) c.args.k) c.args.word c.args.k l.low size
    c.has_fewer.result refl (c.has_fewer.ensures
    ∙ ap (λ h. cond (nat_lt (ones (c.args.word % 2 ^ (l.low + h))) c.args.k) 1 0) half)
    l.invariant.before (subst (λ n. c.args.k ≤ ones (c.args.word % 2 ^ (l.low + n))) two l.invariant.through) in
    rw (half) (record {
      left = omega (arith, l.invariant.left);
      room = omega (arith, here.2, two, l.invariant.room);
      before = here.0;
      through = here.1;
    })

pub returns-clause-within : goal.returns-clause-within
returns-clause-within c =
    let l = c.loop-left in
    elim (cases_lt l.low c.args.width) [
      | inl inside ↦ inside
      | inr past ↦
          let all : c.args.width + (l.low - c.args.width) ≡ l.low = omega (arith, past) in
          absurd (omega (
            arith,
            c.requires.many,
            l.invariant.before,
            ones_up c.args.word c.args.width (l.low - c.args.width),
            ap (λ m. ones (c.args.word % 2 ^ m)) all,
          ))
    ]

pub returns-clause-before : goal.returns-clause-before
returns-clause-before c =
    let l = c.loop-left in
    let one : 2 ^ l.left ≡ 1 = ap (λ m. 2 ^ m) {y = 0} (omega (arith, c.loop-left-test.false)) in
    omega (
      arith,
      l.invariant.before,
      l.invariant.through,
      ap (λ n. ones (c.args.word % 2 ^ (l.low + n))) one,
      ones_step c.args.word l.low,
    )

pub returns-clause-through : goal.returns-clause-through
returns-clause-through c =
    let l = c.loop-left in
    let one : 2 ^ l.left ≡ 1 = ap (λ m. 2 ^ m) {y = 0} (omega (arith, c.loop-left-test.false)) in
    omega (
      arith,
      l.invariant.before,
      l.invariant.through,
      ap (λ n. ones (c.args.word % 2 ^ (l.low + n))) one,
      ones_step c.args.word l.low,
    )
