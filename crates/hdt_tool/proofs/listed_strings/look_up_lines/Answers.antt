use Rattle.std.proofs.Common.{◌∙◌, ap, refl, Some, sym}
use Rattle.std.specs.Prelude.{slice_index}
use Rattle.std.proofs.lemmas.Result.{err_from_is_err_and}
use Rattle.hdt_tool.proofs.ListedLines.{decoded_id, id_fails, ids_on}
use Rattle.hdt_tool.proofs.listed_strings.look_up_lines.Goals as goal

pub returns-in_err-put_listed_line-clause-err : goal.returns-in_err-put_listed_line-clause-err
returns-in_err-put_listed_line-clause-err c =
    let p = err_from_is_err_and c.from_residual-in_err-put_listed_line.result
    c.from_residual-in_err-put_listed_line.ensures.1 in
    let n = slice_index c.args.ids.now c.ids.at in
    let there = decoded_id _ c.args.ids.now c.ids.at n 0 c.in_ok-string_of.field-0 c.clear.new.self.items
    c.string_of.new.out.items c.requires
    c.ids-test.true refl c.clear.ensures.items c.in_ok-string_of.ensures.ok in
    rw (p.1, p.2) (id_fails _ c.args.role c.args.terms c.args.ids.now c.ids.at n 0 c.ids.text.items c.deref.result.now
    c.in_err-put_listed_line.field-0.0
    c.ids-test.true refl c.ids.invariant (there
    ∙ ap Some (sym c.deref.ensures.value)) c.in_err-put_listed_line.ensures.err)

pub ids-preserved : goal.ids-preserved
ids-preserved c =
    let n = slice_index c.args.ids.now c.ids.at in
    let there = decoded_id _ c.args.ids.now c.ids.at n 0 c.in_ok-string_of.field-0 c.clear.new.self.items
    c.string_of.new.out.items c.requires
    c.ids-test.true refl c.clear.ensures.items c.in_ok-string_of.ensures.ok in
    let one = c.in_ok-put_listed_line.ensures.ok in
    ids_on _ c.args.terms c.args.ids.now c.ids.at n 0 c.ids.text.items c.put_listed_line.new.out.items one.0
    c.deref.result.now c.ids-test.true refl
    c.ids.invariant (there ∙ ap Some (sym c.deref.ensures.value)) one.1 one.2
