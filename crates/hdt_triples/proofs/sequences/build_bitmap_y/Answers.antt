use Rattle.std.proofs.Common.{nat_eq, map, arith, ℕ}
use Rattle.std.proofs.lemmas.List.{length-map}
use Rattle.hdt_triples.specs.Laws.Group.{end_bits_more, end_bits_all}
use Rattle.hdt_triples.proofs.sequences.build_bitmap_y.Goals as goal

pub loop-i-preserved : goal.loop-i-preserved
loop-i-preserved c =
    let e = length-map c.args.pairs.now (λ (p : ℕ × ℕ). p.0) in
    rw c.in_ok-push.ensures.items
    (end_bits_more nat_eq (map (λ (p : ℕ × ℕ). p.0) c.args.pairs.now) _ c.loop-i.i _
    (omega (arith, e, c.loop-i-test.true)) c.is_last_of_subject.ensures c.loop-i.invariant)

pub returns : goal.returns
returns c =
    let e = length-map c.args.pairs.now (λ (p : ℕ × ℕ). p.0) in
    end_bits_all nat_eq (map (λ (p : ℕ × ℕ). p.0) c.args.pairs.now) _ c.loop-i.i
    (omega (arith, e, c.loop-i-test.false)) c.loop-i.invariant
