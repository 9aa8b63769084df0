use Rattle.std.proofs.Common.{◌≡◌, ◌≤◌, ◌+◌, ◌++◌, ◌∙◌, List, ℕ, Some, [], ap, append-nil, append_assoc, drop, inr}
use Rattle.std.proofs.Common.{length, subst, sym, take, take-append-drop}
use Rattle.std.specs.Io.KnownBytes.{Appends}
use Rattle.std.proofs.KnownBytes.{Appends-trans}
use Rattle.std.proofs.lemmas.Result.{err_from_is_err_and, IfErr-weaker, on_ok_weaker}
use Rattle.hdt_wire.specs.Counted.{inner, failures}
use Rattle.hdt_dict.specs.Iteration.{next_id}
use Rattle.hdt_file.specs.Graph.{layout_view}
use Rattle.hdt_dict.specs.Dictionary.{role_strings}
use Rattle.hdt_tool.specs.StringsText.{string_lines}
use Rattle.hdt_tool.proofs.StringLines.{line_added, none_left}
use Rattle.hdt_tool.proofs.Pieces.{cut_by, less_kept, more_gained, more_within}
use Rattle.hdt_tool.proofs.printed_strings.print_strings.Goals as goal

pub returns-in_err-accept-clause-cut : goal.returns-in_err-accept-clause-cut
returns-in_err-accept-clause-cut g c =
    let p = err_from_is_err_and c.from_residual-in_err-accept.result c.from_residual-in_err-accept.ensures.1 in
    let w = c.strings.strings in
    let v = c.next.new.self in
    let pending = c.strings.pending in
    let lines = string_lines 1 (role_strings (layout_view c.args.layout.now).dictionary c.args.role) in
    let bytes = c.put_string_line.new.out.items in
    let next : Some c.in-Some.number ≡ next_id w w.ahead = sym c.in-Some.is ∙ c.in_ok-number.ensures.id in
    let behind = line_added w v c.in-Some.number c.string.result.now pending.bytes.items bytes
    (drop pending.written lines) next c.in_ok-number.ensures.ok c.string.ensures
    c.in_ok-put_string_line.ensures c.strings.invariant.rest in
    rw (p.1, p.2) (cut_by (λ out. g.W.Write.contents (inner out))
    (λ out. failures out) c.in_err-accept.field-0.0 c.args.out.now c.strings.out c.accept.new.out
    lines bytes (string_lines (v.given + 1) v.ahead) pending.written c.len-start.result c.strings.invariant.within
    behind c.strings.invariant.gained c.strings.invariant.well c.in_err-accept.ensures.err)

pub strings-preserved : goal.strings-preserved
strings-preserved g c =
    let contents = g.W.Write.contents in
    let w = c.strings.strings in
    let v = c.next.new.self in
    let pending = c.strings.pending in
    let n = pending.written in
    let lines = string_lines 1 (role_strings (layout_view c.args.layout.now).dictionary c.args.role) in
    let bytes = c.put_string_line.new.out.items in
    let rest = string_lines (v.given + 1) v.ahead in
    let next : Some c.in-Some.number ≡ next_id w w.ahead = sym c.in-Some.is ∙ c.in_ok-number.ensures.id in
    let behind = line_added w v c.in-Some.number c.string.result.now pending.bytes.items bytes
    (drop n lines) next c.in_ok-number.ensures.ok c.string.ensures
    c.in_ok-put_string_line.ensures c.strings.invariant.rest in
    let h = c.in_ok-accept.ensures.ok in
    let part = h.0 in
    let left = c.accept.new.self.bytes.items in
    let moved = behind ∙ ap (λ (t : List ℕ). t ++ rest) h.2 ∙ append_assoc part left rest in
    record {
      within = subst (λ (k : ℕ). k
          ≤ length lines) (sym h.1) (more_within lines part (left ++ rest) n c.strings.invariant.within moved);
      gained = subst (λ (k : ℕ). Appends (contents (inner c.args.out.now)) (contents (inner c.accept.new.out))
          (take k lines)) (sym h.1)
          (more_gained (contents (inner c.args.out.now)) (contents (inner c.strings.out))
          (contents (inner c.accept.new.out)) lines part (left ++ rest) n moved c.strings.invariant.gained h.3);
      rest = subst (λ (k : ℕ). drop k lines ≡ left ++ rest) (sym h.1) (less_kept lines part (left ++ rest) n moved);
      fits = c.in_ok-accept.ensures.fits;
      well = c.in_ok-accept.ensures.writer_unfailed ∙ c.strings.invariant.well;
    }

pub returns-clause-cut : goal.returns-clause-cut
returns-clause-cut g c =
    let w = c.strings.strings in
    let pending = c.strings.pending in
    let bytes = pending.bytes.items in
    let lines = string_lines 1 (role_strings (layout_view c.args.layout.now).dictionary c.args.role) in
    let behind : drop pending.written lines ≡ bytes ++ [] =
    c.strings.invariant.rest ∙ none_left w w.ahead c.in_ok-number.field-0
    (w.given + 1) bytes c.in_ok-number.ensures.id c.in_default.not-Some ∙ sym (append-nil bytes) in
    IfErr-weaker c.flush.result _ _
    (λ e h. cut_by (λ out. g.W.Write.contents (inner out))
    (λ out. failures out) e c.args.out.now c.strings.out c.flush.new.out
    lines bytes [] pending.written 0 c.strings.invariant.within behind c.strings.invariant.gained
    c.strings.invariant.well (inr h)) c.flush.ensures.err

pub returns-clause-ok : goal.returns-clause-ok
returns-clause-ok g c =
    let contents = g.W.Write.contents in
    let w = c.strings.strings in
    let pending = c.strings.pending in
    let n = pending.written in
    let bytes = pending.bytes.items in
    let lines = string_lines 1 (role_strings (layout_view c.args.layout.now).dictionary c.args.role) in
    let behind : drop n lines ≡ bytes =
    c.strings.invariant.rest ∙ none_left w w.ahead c.in_ok-number.field-0
    (w.given + 1) bytes c.in_ok-number.ensures.id c.in_default.not-Some in
    let whole : take n lines ++ bytes ≡ lines = ap (λ (t : List ℕ). take n lines ++ t) (sym behind)
    ∙ take-append-drop n lines in
    on_ok_weaker c.flush.result
    (λ h. subst (Appends (contents (inner c.args.out.now)) (contents (inner c.flush.new.out))) whole
    (Appends-trans (contents (inner c.args.out.now)) (contents (inner c.strings.out)) (contents (inner c.flush.new.out))
    (take n lines) bytes c.strings.invariant.gained h)) c.flush.ensures.ok
