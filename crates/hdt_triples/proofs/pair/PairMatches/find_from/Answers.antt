use Rattle.std.proofs.Common.{arith}
use Rattle.hdt_triples.specs.Views.{triples_view}
use Rattle.hdt_triples.specs.Remaining.{remaining_matches}
use Rattle.hdt_triples.specs.Bounds.{pair_cost}
use Rattle.hdt_triples.proofs.StartLaws.{run_left, run_within, within_budget}
use Rattle.hdt_triples.proofs.pair.PairMatches.find_from.Goals as goal

pub invariant_of-result : goal.invariant_of-result
invariant_of-result c =
    let f = triples_view c.args.indexed.now.triples in
    let r = c.match_range-start.result in
    let run = c.match_range-start.ensures.run in
    let n = c.nearest_within.ensures in
    record {
      run = run_within f c.args.pattern c.args.subject c.args.predicate r.0 r.1 c.nearest_within.result run n.from n.to;
      few = within_budget (pair_cost f c.args.pattern) f c.nearest_within.result c.new.result
          (omega (arith, n.to, run.within)) c.new.ensures;
    }

pub returns-clause-items : goal.returns-clause-items
unfolding remaining_matches
returns-clause-items c =
    let f = triples_view c.args.indexed.now.triples in
    let r = c.match_range-start.result in
    let e = c.match_range-start.ensures in
    let n = c.nearest_within.ensures in
    run_left f c.args.pattern c.args.subject c.args.predicate r.0 r.1 c.nearest_within.result c.args.from e.run e.before
    (omega (arith, c.requires.within)) n.to n.up n.down
