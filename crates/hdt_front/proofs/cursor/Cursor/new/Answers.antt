use Rattle.hdt_front.specs.PackedView.{block_layout}
use Rattle.hdt_front.specs.SectionIteration.{located_strings}
use Rattle.hdt_front.specs.Laws.IterationSteps.{ascends_from, ascends_here}
use Rattle.hdt_front.proofs.cursor.Cursor.new.Goals as goal

pub returns-clause-ascends : goal.returns-clause-ascends
unfolding located_strings
returns-clause-ascends c =
    let s = c.args.section.now in
    ascends_here c.new-iter.result c.next.new.self c.in_ok-place.place
    (located_strings s) c.new-iter.ensures c.in_ok-place.ensures.place c.in_ok-place.ensures.ok
    (ascends_from (block_layout s.packed) s.packed.count s.packed.bytes.now s.read)
