use Rattle.std.proofs.Common.{◌∙◌, sym}
use Rattle.std.proofs.lemmas.Result.{err_from_is_err_and}
use Rattle.hdt_tool.proofs.CountLines.{steps, string_is, walk_fails, walked_on}
use Rattle.hdt_tool.proofs.counts.all_lines.Goals as goal

pub strings-preserved : goal.strings-preserved
strings-preserved c =
    let s = steps c.strings.strings c.next.new.self c.in-Some.number (sym c.in-Some.is
    ∙ c.in_ok-number.ensures.id) c.in_ok-number.ensures.ok in
    let one = c.in_ok-put_count_line.ensures.ok in
    walked_on _ _ _ c.strings.strings c.next.new.self c.in-Some.number c.strings.text.items
    c.put_count_line.new.out.items one.0 c.strings.invariant s one.1 one.2

pub returns-in_err-put_count_line-clause-err : goal.returns-in_err-put_count_line-clause-err
returns-in_err-put_count_line-clause-err c =
    let p = err_from_is_err_and c.from_residual-in_err-put_count_line.result
    c.from_residual-in_err-put_count_line.ensures.1 in
    let s = steps c.strings.strings c.next.new.self c.in-Some.number (sym c.in-Some.is
    ∙ c.in_ok-number.ensures.id) c.in_ok-number.ensures.ok in
    rw (p.1, p.2) (walk_fails _ _ _ c.strings.strings c.next.new.self c.in-Some.number c.strings.text.items
    c.in_err-put_count_line.field-0.0 c.strings.invariant s c.in_err-put_count_line.ensures.err)

pub put_count_line-requires : goal.put_count_line-requires
put_count_line-requires c =
    let s = steps c.strings.strings c.next.new.self c.in-Some.number (sym c.in-Some.is
    ∙ c.in_ok-number.ensures.id) c.in_ok-number.ensures.ok in
    string_is _ c.strings.strings c.next.new.self c.in-Some.number c.string.result.now c.strings.invariant.returned s
    c.string.ensures
