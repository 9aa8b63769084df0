use Rattle.std.proofs.Common.{◌≡◌, [], length, ap, arith}
use Rattle.hdt_build.proofs.IndexTriples.{no_ids}
use Rattle.hdt_build.proofs.collector.TripleCollector.is_empty.Goals as goal

pub returns-else-is_empty : goal.returns-else-is_empty
returns-else-is_empty c =
    let d = c.args.self.now in (
      λ yes. let no = c.if-is_empty.false in absurd cc,
      λ none. let e : d.ids.items ≡ [] = no_ids d.terms d.ids.items _ none in let n = ap length e in grind (arith, n),
    )
