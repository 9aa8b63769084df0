use Rattle.std.proofs.Common.{arith, ap, sym, ◌∙◌, length}
use Rattle.hdt_triples.specs.Views.{triples_view}
use Rattle.hdt_triples.specs.Patterns.{matches}
use Rattle.hdt_triples.specs.Remaining.{remaining_matches}
use Rattle.hdt_triples.proofs.ScanLaws.{matches_fit, matches_none}
use Rattle.hdt_triples.proofs.StartLaws.{dropped, fewer}
use Rattle.hdt_triples.proofs.listed_triples.ListedTriples.find_from.Goals as goal

pub returns-then-from-len-clause-items : goal.returns-then-from-len-clause-items
unfolding remaining_matches
returns-then-from-len-clause-items c =
    let f = triples_view c.args.self.now.indexed.triples in
    sym (ap (matches c.args.pattern) (dropped f c.args.from)
    ∙ matches_none c.args.pattern f c.args.from (omega (arith, c.if-from-len.true, c.len.ensures)))

pub returns-clause-items : goal.returns-clause-items
returns-clause-items c =
    c.find_from_triple.ensures.items
    ∙ ap (matches c.args.pattern) (sym (dropped (triples_view c.args.self.now.indexed.triples) c.args.from))

pub returns-clause-fits : goal.returns-clause-fits
returns-clause-fits c =
    let t = c.args.self.now.indexed.triples in
    omega (
      arith,
      ap length c.find_from_triple.ensures.items,
      fewer c.args.pattern (triples_view t) c.args.from (omega (arith, c.if-from-len.false, c.len.ensures)),
      matches_fit c.args.pattern t,
    )
