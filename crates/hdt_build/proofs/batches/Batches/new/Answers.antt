use Rattle.hdt_build.proofs.RecordBatches.{none_had, none_is}
use Rattle.hdt_build.specs.Inside.Collecting.{collected_triples}
use Rattle.hdt_build.proofs.batches.Batches.new.Goals as goal

pub invariant_of-result : goal.invariant_of-result
invariant_of-result g c _ =
    none_had g.S.Scratch.IsKnown c.new-2.result.items c.new-3.result.items c.in_ok-new.field-0 c.new-2.ensures.items
    c.new-3.ensures.items c.in_ok-new.ensures.graph c.in_ok-new.ensures.sound

pub returns : goal.returns
returns g c = none_is c.new-2.result.items c.new-3.result.items (collected_triples c.in_ok-new.field-0)
    c.new-2.ensures.items c.in_ok-new.ensures.graph
