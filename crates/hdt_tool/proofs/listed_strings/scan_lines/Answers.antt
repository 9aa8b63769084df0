use Rattle.std.proofs.Common.{◌∙◌, sym}
use Rattle.std.proofs.lemmas.Result.{err_from_is_err_and}
use Rattle.hdt_tool.proofs.CountLines.{steps, string_is}
use Rattle.hdt_tool.proofs.ListedLines.{id_fails, kept, passed, starts, walked_to_the_end}
use Rattle.hdt_tool.proofs.listed_strings.scan_lines.Goals as goal

pub strings-init : goal.strings-init
strings-init c = rw (c.strings-strings.ensures, c.new-text.ensures.items) (starts _ _ _ c.requires)

pub returns-in_default-clause-ok : goal.returns-in_default-clause-ok
returns-in_default-clause-ok c =
    walked_to_the_end _ _ _ c.strings.strings c.in_ok-number.field-0 c.strings.at c.strings.text.items c.requires
    c.strings.invariant c.in_ok-number.ensures.id c.in_default.not-Some

pub strings-preserved-then-number-ids : goal.strings-preserved-then-number-ids
strings-preserved-then-number-ids c =
    let s = steps c.strings.strings c.next.new.self c.in-Some.number (sym c.in-Some.is
    ∙ c.in_ok-number.ensures.id) c.in_ok-number.ensures.ok in
    passed _ _ _ c.strings.strings c.next.new.self c.strings.at c.in-Some.number 0 c.strings.text.items
    c.strings.invariant s c.strings-test.true c.if-number-ids.true

pub returns-in_err-put_listed_line-clause-err : goal.returns-in_err-put_listed_line-clause-err
returns-in_err-put_listed_line-clause-err c =
    let p = err_from_is_err_and c.from_residual-in_err-put_listed_line.result
    c.from_residual-in_err-put_listed_line.ensures.1 in
    let s = steps c.strings.strings c.next.new.self c.in-Some.number (sym c.in-Some.is
    ∙ c.in_ok-number.ensures.id) c.in_ok-number.ensures.ok in
    let there = string_is _ c.strings.strings c.next.new.self c.in-Some.number c.string.result.now
    c.strings.invariant.returned s c.string.ensures in
    rw (p.1, p.2) (id_fails _ c.args.role c.args.terms c.args.ids.now c.strings.at c.in-Some.number 0
    c.strings.text.items c.string.result.now c.in_err-put_listed_line.field-0.0 c.strings-test.true
    c.if-number-ids.false c.strings.invariant.lines there c.in_err-put_listed_line.ensures.err)

pub strings-preserved : goal.strings-preserved
strings-preserved c =
    let s = steps c.strings.strings c.next.new.self c.in-Some.number (sym c.in-Some.is
    ∙ c.in_ok-number.ensures.id) c.in_ok-number.ensures.ok in
    let one = c.in_ok-put_listed_line.ensures.ok in
    kept _ _ _ c.strings.strings c.next.new.self c.strings.at c.in-Some.number 0 c.strings.text.items
    c.put_listed_line.new.out.items one.0 c.string.result.now c.requires c.strings.invariant s c.strings-test.true
    c.if-number-ids.false c.string.ensures one.1 one.2
