use Rattle.std.proofs.Common.{take, refl, arith}
use Rattle.std.proofs.lemmas.Result.{on_ok_weaker, on_err_weaker}
use Rattle.hdt_seq.specs.Laws.Packing.{Packs-word, Packs-next, Packs-end, Packs-keeps, EachFits-take}
use Rattle.hdt_seq.proofs.packing.put_entries.Goals as goal

pub append_entry-requires-clause-small : goal.append_entry-requires-clause-small
append_entry-requires-clause-small c =
    let l = c.loop-x in
    Packs-word c.args.width (take l.x-index c.args.xs.now) l.rest.word l.rest.filled c.args.out.now.items l.out.items
    (EachFits-take c.args.width l.x-index c.args.xs.now c.requires.fits) l.invariant

pub loop-x-preserved : goal.loop-x-preserved
loop-x-preserved c =
    let l = c.loop-x in
    Packs-next c.args.width l.x-index c.args.xs.now l.rest.word l.rest.filled c.args.out.now.items l.out.items _ _ _ _
    c.loop-x-test.true refl l.invariant
    c.in_ok-append_entry.ensures.word c.in_ok-append_entry.ensures.rest c.in_ok-append_entry.ensures.ok

pub returns-clause-ok : goal.returns-clause-ok
returns-clause-ok c =
    let l = c.loop-x in
    on_ok_weaker c.append_bytes.result
    (λ e. Packs-end c.args.width l.x-index c.args.xs.now l.rest.word l.rest.filled c.args.out.now.items l.out.items
    c.div_ceil.result _ c.loop-x-test.false (omega (arith, c.div_ceil.ensures)) l.invariant e)
    c.append_bytes.ensures.ok

pub returns-clause-err : goal.returns-clause-err
returns-clause-err c =
    let l = c.loop-x in
    on_err_weaker c.append_bytes.result
    (λ e. Packs-keeps c.args.width (take l.x-index c.args.xs.now) l.rest.word l.rest.filled c.args.out.now.items
    l.out.items _ l.invariant e)
    c.append_bytes.ensures.err
