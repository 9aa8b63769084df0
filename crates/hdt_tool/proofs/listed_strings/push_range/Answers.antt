use Rattle.std.proofs.Common.{◌∙◌, ◌++◌, ◌+◌, ◌∷◌, [], ap}
use Rattle.hdt_tool.proofs.ListedLines.{range_more}
use Rattle.hdt_tool.proofs.listed_strings.push_range.Goals as goal

pub numbers-preserved : goal.numbers-preserved
numbers-preserved c =
    range_more _ _ c.args.range.now.start c.numbers.more (c.in_ok-push.ensures.items
    ∙ ap (λ l. l ++ (c.args.range.now.start + c.numbers.more) ∷ []) c.numbers.invariant)
