use Rattle.std.proofs.Common.{◌∙◌, ◌++◌, ◌∷◌, List, [], ap}
use Rattle.hdt_file.specs.Denoted.{StringTriple}
use Rattle.hdt_build.specs.Inside.Batches.{batch_triples, plain_triples}
use Rattle.hdt_build.proofs.RecordBatches.{more_had, more_is, view_with}
use Rattle.hdt_build.proofs.batches.Batches.add.Goals as goal

pub invariant_of-self-2 : goal.invariant_of-self-2
invariant_of-self-2 g c _ =
    let b = c.self.inside in
    more_had g.S.Scratch.IsKnown b.records.items b.triples.items b.collector (c.self.invariant c.in_ok-fail_if.ensures)
    c.add.new.self (c.args.s.now, c.args.p.now, c.args.o.now)
    (rw (
      c.as_slice-s.ensures.value,
      c.as_slice-p.ensures.value,
      c.as_slice-o.ensures.value,
      c.in_ok-put_record.ensures,
      c.in_ok-put_record-2.ensures,
      c.in_ok-put_record-3.ensures,
    ) at c.in_ok-add.ensures.graph)
    c.in_ok-add.ensures.sound

pub returns : goal.returns
returns g c =
    let b = c.self.inside in
    let t : StringTriple = (c.args.s.now, c.args.p.now, c.args.o.now) in
    more_is g.S.Scratch.IsKnown b.records.items b.triples.items b.collector (c.self.invariant c.in_ok-fail_if.ensures)
    c.add.new.self t
    (rw (
      c.as_slice-s.ensures.value,
      c.as_slice-p.ensures.value,
      c.as_slice-o.ensures.value,
      c.in_ok-put_record.ensures,
      c.in_ok-put_record-2.ensures,
      c.in_ok-put_record-3.ensures,
    ) at c.in_ok-add.ensures.graph)
    (plain_triples (batch_triples b.records.items b.triples.items))
    ∙ ap (λ (l : List StringTriple). l ++ t ∷ []) (view_with b.has_failed _ c.args.self.now
    c.self.view_is c.in_ok-fail_if.ensures)
