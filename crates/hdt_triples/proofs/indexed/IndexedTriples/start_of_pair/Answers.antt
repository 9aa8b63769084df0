use Rattle.std.proofs.Common.{arith, sym, ◌∙◌}
use Rattle.hdt_triples.specs.Views.{triples_view}
use Rattle.hdt_seq.specs.Laws.RankSelect.{ones_before_mono}
use Rattle.hdt_seq.specs.Laws.RankSelect.{ones_before_at_0}
use Rattle.hdt_seq.specs.Laws.Bits.{bits_below}
use Rattle.hdt_triples.proofs.indexed.IndexedTriples.start_of_pair.Goals as goal

pub returns-then-pair-eq0-clause-is : goal.returns-then-pair-eq0-clause-is
returns-then-pair-eq0-clause-is c = ones_before_at_0 (triples_view c.args.self.now.triples).bitmap_z
    ∙ sym c.if-pair-eq0.true

pub returns-clause-earlier : goal.returns-clause-earlier
unfolding triples_view
returns-clause-earlier c =
    λ i h. omega (
      arith,
      ones_before_mono (triples_view c.args.self.now.triples).bitmap_z i c.select.result
          (omega (arith, h)),
      c.select.ensures.is.before,
    )

pub overflow_add-result : goal.overflow_add-result
overflow_add-result c = omega (arith, bits_below c.args.self.now.triples.bitmap_z, c.select.ensures.within)
