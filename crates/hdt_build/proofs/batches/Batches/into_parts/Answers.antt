use Rattle.std.proofs.Common.{refl}
use Rattle.hdt_build.proofs.RecordBatches.{parts_are, view_with}
use Rattle.hdt_build.proofs.batches.Batches.into_parts.Goals as goal

pub returns : goal.returns
returns g c =
    let b = c.self.inside in
    let f = c.if-has_failed.false in
    parts_are g.S.Scratch.IsKnown b.records.items b.triples.items b.collector (c.self.invariant f) c.args.self
    (view_with b.has_failed _ c.args.self c.self.view_is f) (c.if-not-is_empty.ensures.0 refl)
