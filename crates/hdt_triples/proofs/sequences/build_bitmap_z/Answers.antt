use Rattle.hdt_triples.specs.Writing.{pair_eq}
use Rattle.hdt_triples.specs.Laws.Group.{end_bits_more, end_bits_all}
use Rattle.hdt_triples.proofs.sequences.build_bitmap_z.Goals as goal

pub loop-i-preserved : goal.loop-i-preserved
loop-i-preserved c = rw c.in_ok-push.ensures.items
    (end_bits_more pair_eq c.args.pairs.now _ c.loop-i.i _ c.loop-i-test.true c.is_last_of_pair.ensures
    c.loop-i.invariant)

pub returns : goal.returns
returns c = end_bits_all pair_eq c.args.pairs.now _ c.loop-i.i c.loop-i-test.false c.loop-i.invariant
