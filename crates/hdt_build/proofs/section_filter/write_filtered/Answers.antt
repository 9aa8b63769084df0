use Rattle.std.proofs.Common.{◌≡◌, ◌∙◌, ℕ, ◌+◌, ◌<◌, [], get_or, length, ap, sym, arith}
use Rattle.std.proofs.lemmas.List.{length_push, length-drop}
use Rattle.hdt_front.specs.WriterState.{SectionWriterState}
use Rattle.hdt_build.specs.Inside.Filtering.{IsInFilter}
use Rattle.hdt_build.proofs.SectionFilling.{flag_before, none_filled, one_filled, one_passed}
use Rattle.hdt_build.proofs.StringCursors.{drop_first}
use Rattle.hdt_build.proofs.section_filter.write_filtered.Goals as goal
use Rattle.hdt_build.proofs.section_filter.write_filtered.Goals.{then-branch+then-selects+in_ok-push, else-branch}
use Rattle.hdt_build.proofs.section_filter.write_filtered.Goals.{else-branch-via-then-branch+else-selects}
use Rattle.hdt_build.proofs.section_filter.write_filtered.Goals.{else-branch-via-else-branch}

pub loop-at-init : goal.loop-at-init
loop-at-init c =
    let f = c.args.filter in
    let small : (k : ℕ) → IsInFilter f.used.now f.other.now f.wanted k
    → k < length c.args.strings.now =
    λ k keep. omega (arith, flag_before f.used.now k keep.0, c.requires.used) in
    record {
      filled = rw c.new-out.ensures
          (none_filled c.args.strings.now c.requires.ascend
          (IsInFilter f.used.now f.other.now f.wanted) small c.args.ids_before c.args.ids.now.items);
      block = ap (λ (w : SectionWriterState). w.block_size) c.new-out.ensures;
      few = rw c.new-out.ensures (omega arith);
      ahead = c.reader-reader.ensures;
    }

pub loop-at-preserved : goal.loop-at-preserved
loop-at-preserved c =
    let l = c.loop-at in
    let f = c.args.filter in
    let xs = c.args.strings.now in
    let small : (k : ℕ) → IsInFilter f.used.now f.other.now f.wanted k → k < length xs =
    λ k keep. omega (arith, flag_before f.used.now k keep.0, c.requires.used) in
    elim c.if-branch.branch [
      | then-branch+then-selects+in_ok-push w ↦
          let d = drop_first xs l.at [] _ _ (sym l.invariant.ahead ∙ c.in_ok-next.ensures.some w.if-branch.true) in
          let kept = w.selects.ensures.0 w.if-selects.true in
          let string : w.text.result.now ≡ get_or xs l.at [] = w.text.ensures ∙ sym d.1 in
          let step = rw (sym string) at
          (one_filled xs c.requires.ascend (IsInFilter f.used.now f.other.now f.wanted) small c.args.ids_before
          c.args.ids.now.items l.at l.out.strings l.ids.items l.invariant.filled
          (c.args.ids_before + w.len.result) kept
          (omega (arith, c.loop-at-test.true, l.invariant.filled.long, c.requires.ids))
          (ap (λ (n : ℕ). c.args.ids_before + n) (w.len.ensures
          ∙ (ap (λ (s : SectionWriterState). length s.strings) w.in_ok-push.ensures.ok
          ∙ length_push l.out.strings _)))) in
          record {
            filled = rw (w.out-is, w.in_ok-push.ensures.ok, w.ids-is) step;
            block = rw (w.out-is, w.in_ok-push.ensures.ok) l.invariant.block;
            few = rw (w.out-is, w.in_ok-push.ensures.ok)
                (omega (arith, l.invariant.few, length_push l.out.strings w.text.result.now));
            ahead = sym d.2;
          }
      | else-branch w ↦
          elim w.else-branch.branch [
            | else-branch-via-then-branch+else-selects u ↦
                let d = drop_first xs l.at [] _ _
                (sym l.invariant.ahead ∙ c.in_ok-next.ensures.some u.if-branch.true) in
                record {
                  filled = rw (w.out-is, w.ids-is)
                      (one_passed xs c.requires.ascend (IsInFilter f.used.now f.other.now f.wanted) small
                      c.args.ids_before c.args.ids.now.items l.at l.out.strings l.ids.items l.invariant.filled
                      (λ keep. let e = u.selects.ensures.1 keep in let g = u.if-selects.false in cc));
                  block = rw w.out-is l.invariant.block;
                  few = rw w.out-is (omega (arith, l.invariant.few));
                  ahead = sym d.2;
                }
            | else-branch-via-else-branch u ↦
                let none = sym l.invariant.ahead ∙ c.in_ok-next.ensures.none u.if-branch.false in
                absurd (omega (arith, ap length none, length-drop l.at xs, c.loop-at-test.true))
          ]
    ]
