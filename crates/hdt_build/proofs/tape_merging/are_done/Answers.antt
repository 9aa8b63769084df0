use Rattle.std.proofs.Common.{◌∙◌, ◌++◌, List, ap, refl}
use Rattle.hdt_triples.specs.TripleSequences.{Triple}
use Rattle.hdt_build.proofs.TripleRuns.{joined_next, joined_none}
use Rattle.hdt_build.proofs.tape_merging.are_done.Goals as goal

pub loop-cursor-init : goal.loop-cursor-init
loop-cursor-init g c = joined_none

pub loop-cursor-preserved : goal.loop-cursor-preserved
loop-cursor-preserved g c =
    let l = c.loop-cursor in
    joined_next c.args.cursors.now l.cursor-index c.cursor-item.result c.loop-cursor-test.true c.cursor-item.is
    ∙ (ap (λ (x : List Triple). x ++ c.cursor-item.result) l.invariant ∙ c.if-not-is_done.ensures refl)
