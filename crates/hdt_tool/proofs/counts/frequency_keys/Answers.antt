use Rattle.std.proofs.Common.{◌≡◌, ◌∷◌, ◌++◌, ◌+◌, ◌-◌, ◌∙◌, [], ap, arith, map, sym}
use Rattle.std.proofs.lemmas.List.FromFn.{map-range_with_len_more}
use Rattle.std.specs.List.{range_with_len}
use Rattle.hdt_file.specs.Graph.{graph_view}
use Rattle.hdt_tool.specs.Inside.FrequencyKeys.{frequency_key}
use Rattle.hdt_tool.proofs.CountLines.{fits_more}
use Rattle.hdt_tool.proofs.counts.frequency_keys.Goals as goal

pub numbers-preserved : goal.numbers-preserved
numbers-preserved c =
    let before = c.numbers.before in
    let f = frequency_key (graph_view c.args.graph.now) c.args.role in
    let front = map f (range_with_len 1 before) in
    let next : 1 + before ≡ before + 1 = omega arith in (
      c.in_ok-push.ensures.items
          ∙ ap (λ l. l ++ (18446744073709551615 - c.use_count.result, before + 1) ∷ []) c.numbers.invariant.0
          ∙ ap (λ n. front ++ (18446744073709551615 - n, before + 1) ∷ []) c.use_count.ensures.count
          ∙ sym (map-range_with_len_more f 1 before (before + 1) next),
      fits_more (graph_view c.args.graph.now) c.args.role before c.numbers.invariant.1 c.use_count.ensures.fits,
    )
