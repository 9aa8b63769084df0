use Rattle.std.proofs.Common.{◌≡◌, ◌∙◌, ◌≤◌, ◌+◌, ◌++◌, ◌∷◌, [], ℕ, Some, ap, ap₂, arith, map, rules, subst, sym}
use Rattle.std.proofs.lemmas.List.{map_push}
use Rattle.std.proofs.lemmas.List.FromFn.{map-range_with_len_more}
use Rattle.std.specs.List.{range_with_len}
use Rattle.hdt_tool.specs.Paths.{printed_part, printed_to}
use Rattle.hdt_tool.specs.declared.split_parts.PrintedPart.{PrintedPart}
use Rattle.hdt_tool.proofs.SplitRuns.{is_printed, not_printed}
use Rattle.hdt_tool.proofs.split_parts.printed_parts.Goals as goal
use Rattle.hdt_tool.proofs.split_parts.printed_parts.Goals.{then-number-part, else-number-part}

pub returns-clause-part : goal.returns-clause-part
returns-clause-part g c =
    let outs = c.parts.outs.items in
    subst (λ (n : ℕ). map printed_to outs ≡ map (printed_part c.args.part c.args.out) (range_with_len 0 n))
    (grind arith) c.parts.invariant.2

pub parts-preserved : goal.parts-preserved
parts-preserved g c =
    let part = c.args.part in
    let out = c.args.out in
    let now = c.parts.number in
    let before = map printed_to c.parts.outs.items in
    let printed : c.if-number-part.out2 ≡ printed_part part out now =
    elim c.if-number-part.branch [
      | then-number-part w ↦
          w.out2-is ∙ w.take-out.ensures.value ∙ c.parts.invariant.3 (grind (arith, w.if-number-part.true))
          ∙ is_printed part now out w.if-number-part.true
      | else-number-part w ↦ w.out2-is ∙ not_printed part now out w.if-number-part.false
    ] in
    let left : now + 1 ≤ part → c.if-number-part.out ≡ Some out =
    elim c.if-number-part.branch [
      | then-number-part w ↦ λ later. absurd (grind (arith, w.if-number-part.true))
      | else-number-part w ↦ λ later. w.out-is ∙ c.parts.invariant.3 (grind arith)
    ] in
    let pushed : map printed_to c.push.new.self.items ≡ before ++ c.if-number-part.out2 ∷ [] =
    ap (map printed_to) c.in_ok-push.ensures.items ∙ map_push printed_to c.parts.outs.items c.new.result
    ∙ ap (λ (part : PrintedPart g.row.W.Denot). before ++ part.out ∷ []) c.new.ensures.inner in (
      search rules,
      search rules,
      pushed
          ∙ ap₂ (λ front last. front ++ last ∷ []) c.parts.invariant.2 printed
          ∙ sym (map-range_with_len_more (printed_part part out) 0 now now (grind arith)),
      left,
    )
