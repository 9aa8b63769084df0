use Rattle.std.proofs.Common.{below_more, refl}
use Rattle.hdt_build.specs.Inside.Batches.{IsUsedIndex}
use Rattle.hdt_build.proofs.batches.are_all_used.Goals as goal

pub loop-at-preserved : goal.loop-at-preserved
loop-at-preserved c =
    below_more (IsUsedIndex c.args.triples.now) c.loop-at.at c.loop-at.invariant
    (c.if-not-has_flag.ensures refl c.args.triples.now c.args.count c.in_ok-flags.ensures)
