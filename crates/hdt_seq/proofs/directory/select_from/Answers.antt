use Rattle.std.proofs.Common.{arith, ap, ◌∙◌, ◌≡◌, ◌<◌, ◌+◌, length}
use Rattle.hdt_seq.specs.RankSelect.{ones_before}
use Rattle.hdt_seq.specs.Bits.{bits_of}
use Rattle.hdt_seq.specs.Laws.RankSelect.{less_by_ones, less_than_length}
use Rattle.hdt_seq.proofs.directory.select_from.Goals as goal

pub loop-left-init : goal.loop-left-init
loop-left-init c =
    let bits = bits_of c.args.bits.now in
    let fewer : ones_before bits c.args.from < ones_before bits (c.args.from + 512) =
    omega (arith, c.requires.near, c.requires.some) in
    record {
      within = less_than_length bits c.args.from (c.args.from + 512) fewer;
      inside = omega arith;
      order = omega arith;
      aligned = omega arith;
      some = c.requires.some;
      counted = omega arith;
    }

pub loop-left-preserved : goal.loop-left-preserved
loop-left-preserved c =
    let bits = bits_of c.args.bits.now in
    let l = c.loop-left in
    let next = l.at + c.min.result in
    let end = c.args.from + 512 in
    let counted : ones_before bits l.at + c.from-found.result ≡ ones_before bits next =
    ap (λ n. ones_before bits l.at + n) c.from-found.ensures ∙ c.word-word.ensures.all in
    let fewer : ones_before bits next < ones_before bits end =
    omega (arith, counted, c.if-left-found.false, c.requires.near, l.invariant.counted) in
    let within : next < length bits = less_than_length bits next end fewer in
    record {
      within = within;
      inside = less_by_ones bits next end fewer;
      order = omega (arith, l.invariant.order, c.word-word.ensures.cost);
      aligned = omega (
        arith,
        within,
        c.min.ensures,
        c.len.ensures,
        l.invariant.aligned,
        l.invariant.order,
        c.word-word.ensures.cost,
      );
      some = omega (arith, c.if-left-found.false);
      counted = omega (arith, counted, c.if-left-found.false, l.invariant.counted);
    }
