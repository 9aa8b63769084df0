use Rattle.std.proofs.Common.{◌≡◌, ◌+◌, ◌-◌, ◌^◌, drop, length, min, refl, rules, sym, take, take-append-drop}
use Rattle.std.proofs.lemmas.List.{length-take-le}
use Rattle.hdt_terms.proofs.DocumentLines.{more_bytes}
use Rattle.hdt_terms.proofs.lint.write_if_long.Goals as goal

pub returns-clause-count : goal.returns-clause-count
returns-clause-count g c =
    let text = c.args.text.now.items in
    λ before gained. more_bytes c.args.written _ before _ _ text (search rules) (search rules) gained

pub returns-in-Err-clause-err : goal.returns-in-Err-clause-err
returns-in-Err-clause-err g c =
    let text = c.args.text.now.items in
    let part = rw c.deref.ensures.value at c.in-Err.ensures.part in (
      c.saturating_add.result,
      refl,
      λ before gained. more_bytes c.args.written _ before _ _ (take c.in-Err.count text)
          (search rules) part.1 gained,
    )

pub returns-in-Err-clause-part : goal.returns-in-Err-clause-part
returns-in-Err-clause-part g c =
    let text = c.args.text.now.items in
    let part = rw c.deref.ensures.value at c.in-Err.ensures.part in
    (drop c.in-Err.count text, (take c.in-Err.count text, sym (take-append-drop c.in-Err.count text), part.1))
