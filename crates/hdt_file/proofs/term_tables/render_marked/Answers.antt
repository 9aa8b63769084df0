use Rattle.std.proofs.Common.{List, ℕ, Bool, ◌+◌, ◌∙◌, ap, length, subst, sym, arith}
use Rattle.hdt_dict.specs.Arena.{arena_strings}
use Rattle.hdt_file.specs.Graph.{layout_view}
use Rattle.hdt_file.specs.Inside.RenderedTerms.{AreRendered, AppendsRenderedIfMarked, is_marked}
use Rattle.hdt_dict.specs.Dictionary.{role_strings}
use Rattle.hdt_file.proofs.RenderedTermLaws.{RenderedUpTo, ExtendsToAll, begins, one_more, all_made, given}
use Rattle.hdt_file.proofs.RenderedTermLaws.{numbered_next, ended}
use Rattle.hdt_file.proofs.term_tables.render_marked.Goals as goal

pub strings-init : goal.strings-init
strings-init c =
    rw (
      c.strings-strings.ensures,
      c.new-bytes.ensures.items,
      c.in_ok-push.ensures.items,
      c.new-starts.ensures.items,
    )
    (begins c.args.role c.args.marks.now (role_strings (layout_view c.args.layout.now).dictionary c.args.role))

pub strings-smaller : goal.strings-smaller
strings-smaller c =
    let w = c.strings.strings in
    omega (
      arith,
      ap length (given w c.next.new.self c.in-Some.number w.ahead (sym c.in_ok-number.ensures.id
          ∙ c.in-Some.is) c.in_ok-number.ensures.ok),
    )

pub strings-preserved : goal.strings-preserved
strings-preserved c =
    let role = c.args.role in
    let marks = c.args.marks.now in
    let w = c.strings.strings in
    let all = role_strings (layout_view c.args.layout.now).dictionary role in
    let new = c.next.new.self in
    let old = c.strings.bytes.items in
    let grown = c.put_rendered_if_marked.new.out.items in
    let next = sym c.in_ok-number.ensures.id ∙ c.in-Some.is in
    let e = given w new c.in-Some.number w.ahead next c.in_ok-number.ensures.ok in
    let n = numbered_next w new c.in-Some.number w.ahead next c.in_ok-number.ensures.ok in
    let h = subst (λ (ahead : List (List ℕ)). RenderedUpTo role marks all
    (w.given + 1) ahead old c.strings.starts.items) e c.strings.invariant in
    let marked = c.is_marked.ensures ∙ ap (is_marked marks) n.0 in
    let put = subst (λ (b : Bool). AppendsRenderedIfMarked b role new.last old grown) marked
    (subst (λ (x : List ℕ). AppendsRenderedIfMarked c.is_marked.result role x old grown) c.string.ensures
    c.in_ok-put_rendered_if_marked.ensures) in
    let made = one_more role marks all new.ahead (w.given + 1) new.last old c.strings.starts.items grown c.len.result h
    put (omega (arith, c.len.ensures, c.put_rendered_if_marked.new.out.ok.0)) in
    subst (λ (m : ℕ). RenderedUpTo role marks all (m + 1) new.ahead grown c.push-in-Some.new.self.items) (sym n.1)
    (subst (RenderedUpTo role marks all (w.given + 1 + 1) new.ahead grown) (sym c.in_ok-push-2.ensures.items) made)

pub returns : goal.returns
returns c =
    let role = c.args.role in
    let marks = c.args.marks.now in
    let w = c.strings.strings in
    let all = role_strings (layout_view c.args.layout.now).dictionary role in
    let none = ended w w.ahead c.in_ok-number.field-0 c.in_ok-number.ensures.id (λ k. c.in_default.not-Some k) in
    let made = subst (λ (ahead : List (List ℕ)). ExtendsToAll role marks all (w.given + 1) ahead
    (arena_strings c.strings.bytes.items c.strings.starts.items)) none c.strings.invariant.go_on in
    subst (AreRendered role marks 1 all) (sym c.from_parts.ensures)
    (all_made role marks all (w.given + 1) (arena_strings c.strings.bytes.items c.strings.starts.items) made)
