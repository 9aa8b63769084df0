use Rattle.std.proofs.Common.{ℕ, List, false, map, take, sym, arith}
use Rattle.std.proofs.lemmas.List.{length-map, get_or-map}
use Rattle.std.proofs.lemmas.Result.{on_ok_weaker, on_err_weaker}
use Rattle.hdt_seq.specs.PackedBits.{bit_number, packed_bits}
use Rattle.hdt_seq.specs.Laws.Packing.{bits_fit, Packs-word, Packs-next, Packs-end, Packs-keeps, EachFits-take}
use Rattle.hdt_seq.proofs.packing.append_bits.Goals as goal

pub append_bit-requires-clause-small : goal.append_bit-requires-clause-small
append_bit-requires-clause-small c =
    let l = c.loop-bit in
    let ns : List ℕ = map bit_number c.args.bits.now in
    Packs-word 1 (take l.bit-index ns) l.rest.word l.rest.filled c.args.out.now.items l.out.items
    (EachFits-take 1 l.bit-index ns (bits_fit c.args.bits.now)) l.invariant

pub loop-bit-preserved : goal.loop-bit-preserved
loop-bit-preserved c =
    let l = c.loop-bit in
    let ns : List ℕ = map bit_number c.args.bits.now in
    Packs-next 1 l.bit-index ns l.rest.word l.rest.filled c.args.out.now.items l.out.items _ _ _ _
    (omega (arith, c.loop-bit-test.true, length-map c.args.bits.now bit_number))
    (sym (get_or-map bit_number c.args.bits.now l.bit-index false 0 c.loop-bit-test.true)) l.invariant
    c.in_ok-append_bit.ensures.word c.in_ok-append_bit.ensures.rest c.in_ok-append_bit.ensures.ok

pub returns-clause-ok : goal.returns-clause-ok
unfolding packed_bits
returns-clause-ok c =
    let l = c.loop-bit in
    let ns : List ℕ = map bit_number c.args.bits.now in
    on_ok_weaker c.append_bytes.result
    (λ e. Packs-end 1 l.bit-index ns l.rest.word l.rest.filled c.args.out.now.items l.out.items c.div_ceil.result _
    (omega (arith, c.loop-bit-test.false, length-map c.args.bits.now bit_number))
    (omega (arith, c.div_ceil.ensures)) l.invariant e)
    c.append_bytes.ensures.ok

pub returns-clause-err : goal.returns-clause-err
returns-clause-err c =
    let l = c.loop-bit in
    on_err_weaker c.append_bytes.result
    (λ e. Packs-keeps 1 (take l.bit-index (map bit_number c.args.bits.now)) l.rest.word l.rest.filled
    c.args.out.now.items l.out.items _ l.invariant e)
    c.append_bytes.ensures.err
