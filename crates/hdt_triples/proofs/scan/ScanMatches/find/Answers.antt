use Rattle.std.proofs.Common.{arith, ap, length, ◌∙◌}
use Rattle.hdt_triples.specs.Patterns.{matches}
use Rattle.hdt_triples.specs.Views.{triples_view}
use Rattle.hdt_triples.specs.Remaining.{remaining_matches}
use Rattle.hdt_triples.specs.Scanning.{triples_from}
use Rattle.hdt_triples.proofs.ScanLaws.{from_start, matches_fit}
use Rattle.hdt_triples.proofs.scan.ScanMatches.find.Goals as goal

pub returns-clause-items : goal.returns-clause-items
unfolding remaining_matches
returns-clause-items c =
    let f = triples_view c.args.triples.now in
    ap (λ j. matches c.args.pattern (triples_from f j)) c.first.ensures.at ∙ ap (matches c.args.pattern) (from_start f)

pub returns-clause-fits : goal.returns-clause-fits
unfolding remaining_matches
returns-clause-fits c = omega (arith, ap length (returns-clause-items c), matches_fit c.args.pattern c.args.triples.now)
