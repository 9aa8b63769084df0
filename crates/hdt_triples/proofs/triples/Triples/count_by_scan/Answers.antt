use Rattle.std.proofs.Common.{◌∙◌, ap, sym, arith, length}
use Rattle.hdt_triples.specs.Patterns.{agrees, matches}
use Rattle.hdt_triples.specs.Views.{triples_view}
use Rattle.hdt_triples.specs.Scanning.{triples_from}
use Rattle.hdt_triples.proofs.MatchCountLaws.{count_on}
use Rattle.hdt_triples.proofs.TriplePositionLaws.{at_most_one}
use Rattle.hdt_triples.proofs.ScanLaws.{from_start, matches_fit, matches_none}
use Rattle.hdt_triples.proofs.triples.Triples.count_by_scan.Goals as goal

pub triples-init : goal.triples-init
triples-init c =
    let f = triples_view c.args.self.now in
    record {
      positioned = c.first-position.ensures.positioned;
      few = omega arith;
      so_far = omega (
        arith,
        ap (λ j. length (matches c.args.pattern (triples_from f j))) c.first-position.ensures.at,
        ap (λ ts. length (matches c.args.pattern ts)) (from_start f),
      );
      cost = omega arith;
      more = omega arith;
    }

pub overflow_add-count : goal.overflow_add-count
overflow_add-count c =
    let f = triples_view c.args.self.now in
    omega (
      arith,
      c.triples.invariant.so_far,
      count_on c.args.pattern f c.triples.position.at c.is_match.result c.from-count.result
          (omega (arith, c.if-position-len.true, c.len.ensures))
          (ap (agrees c.args.pattern) (sym c.read_triple-triple.ensures.is)
          ∙ sym c.is_match.ensures) c.from-count.ensures,
      matches_fit c.args.pattern c.args.self.now,
    )

pub triples-preserved : goal.triples-preserved
triples-preserved c =
    let f = triples_view c.args.self.now in
    record {
      positioned = c.advance-position.ensures.positioned;
      few = omega (arith, c.triples-test.true, at_most_one c.is_match.result c.from-count.result c.from-count.ensures);
      so_far = omega (
        arith,
        c.triples.invariant.so_far,
        count_on c.args.pattern f c.triples.position.at c.is_match.result c.from-count.result
            (omega (arith, c.if-position-len.true, c.len.ensures))
            (ap (agrees c.args.pattern) (sym c.read_triple-triple.ensures.is)
            ∙ sym c.is_match.ensures) c.from-count.ensures,
        ap (λ j. length (matches c.args.pattern (triples_from f j))) c.advance-position.ensures.at,
      );
      cost = omega (
        arith,
        c.triples.invariant.cost,
        c.read_triple-triple.ensures.cost,
        c.advance-position.ensures.cost,
        c.advance-position.ensures.at,
      );
      more = omega (
        arith,
        c.triples.invariant.more,
        c.read_triple-triple.ensures.cost,
        c.advance-position.ensures.more,
      );
    }

pub returns-after-triples-clause-is : goal.returns-after-triples-clause-is
returns-after-triples-clause-is c =
    omega (arith, c.triples.invariant.so_far, c.triples.invariant.few, c.triples-test.false)

pub returns-else-position-len-clause-is : goal.returns-else-position-len-clause-is
returns-else-position-len-clause-is c =
    omega (
      arith,
      c.triples.invariant.so_far,
      c.triples.invariant.few,
      ap length (matches_none c.args.pattern (triples_view c.args.self.now) c.triples.position.at
          (omega (arith, c.if-position-len.false, c.len.ensures))),
    )
