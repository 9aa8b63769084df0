use Rattle.std.proofs.Common.{◌∙◌, ap, arith, Some, sym}
use Rattle.std.proofs.lemmas.Result.{err_from_is_err_and}
use Rattle.hdt_tool.proofs.CountLines.{decoded, key_fails, keys_all, keys_on}
use Rattle.hdt_tool.proofs.counts.top_lines.Goals as goal

pub put_count_line-requires : goal.put_count_line-requires
put_count_line-requires c =
    decoded _ _ c.in_ok-keys.keys.items c.keys.at c.index.result.now c.index.result.now c.in_ok-string_of.field-0
    c.clear.new.self.items c.string_of.new.out.items c.in_ok-keys.ensures
    (omega (arith, c.keys-test.true, c.min-most.ensures, c.len.ensures)) c.index.ensures c.clear.ensures.items
    c.in_ok-string_of.ensures.ok
    ∙ ap Some (sym c.deref.ensures.value)

pub returns-in_err-put_count_line-clause-err : goal.returns-in_err-put_count_line-clause-err
returns-in_err-put_count_line-clause-err c =
    let p = err_from_is_err_and c.from_residual-in_err-put_count_line.result
    c.from_residual-in_err-put_count_line.ensures.1 in
    rw (p.1, p.2) (key_fails _ _ c.args.top _ c.in_ok-keys.keys.items c.keys.at c.index.result.now c.index.result.now
    c.keys.text.items c.in_err-put_count_line.field-0.0 c.in_ok-keys.ensures
    (omega (arith, c.keys-test.true, c.min-most.ensures, c.len.ensures))
    (omega (arith, c.keys-test.true, c.min-most.ensures, c.len.ensures)) c.index.ensures c.keys.invariant
    c.in_err-put_count_line.ensures.err)

pub keys-preserved : goal.keys-preserved
keys-preserved c =
    let one = c.in_ok-put_count_line.ensures.ok in
    keys_on _ _ _ c.in_ok-keys.keys.items c.keys.at c.index.result.now c.index.result.now c.keys.text.items
    c.put_count_line.new.out.items one.0 (omega (arith, c.keys-test.true, c.min-most.ensures, c.len.ensures))
    c.index.ensures
    c.keys.invariant one.1 one.2

pub returns-clause-ok : goal.returns-clause-ok
returns-clause-ok c =
    keys_all _ _ c.args.top _ c.in_ok-keys.keys.items c.keys.at c.keys.text.items c.in_ok-keys.ensures
    (omega (arith, c.keys-test.false, c.keys.auto.at-end, c.min-most.ensures, c.len.ensures)) c.keys.invariant
