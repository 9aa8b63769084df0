use Rattle.std.proofs.Common.{◌∙◌}
use Rattle.hdt_build.proofs.RecordBatches.{batch_had, batch_is, view_with}
use Rattle.hdt_build.proofs.batches.Batches.flush.Goals as goal

pub invariant_of-self-2 : goal.invariant_of-self-2
invariant_of-self-2 g c _ =
    let b = c.self.inside in
    let made = rw (c.in-Some.is, c.replace-collector.ensures.value) at c.in_ok-records.ensures in
    rw (c.in_ok-push_item.ensures, c.in_ok-push_item-2.ensures, c.replace-collector.ensures.after)
    (batch_had g.S.Scratch.IsKnown b.records.items b.triples.items b.collector
    (c.self.invariant c.in_ok-fail_if.ensures)
    c.in-Some.records c.in-Some.triples made c.in_ok-next.next c.in_ok-next.ensures.graph c.in_ok-next.ensures.sound
    (λ e. let t = c.is_empty.ensures.1 e in let f = c.if-is_empty.false in absurd cc))

pub returns : goal.returns
returns g c _ known =
    let b = c.self.inside in
    let made = rw (c.in-Some.is, c.replace-collector.ensures.value) at c.in_ok-records.ensures in
    rw (c.in_ok-push_item.ensures, c.in_ok-push_item-2.ensures, c.replace-collector.ensures.after)
    (batch_is g.S.Scratch.IsKnown b.records.items b.triples.items b.collector (c.self.invariant c.in_ok-fail_if.ensures)
    c.in-Some.records c.in-Some.triples made c.in_ok-next.next c.in_ok-next.ensures.graph known)
    ∙ view_with b.has_failed _ c.args.self.now c.self.view_is c.in_ok-fail_if.ensures
