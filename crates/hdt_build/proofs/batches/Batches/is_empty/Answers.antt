use Rattle.std.proofs.Common.{◌∙◌, sym, arith, eqb-true}
use Rattle.std.proofs.lemmas.List.{nil_from_length}
use Rattle.hdt_build.specs.Inside.Collecting.{collected_triples}
use Rattle.hdt_build.proofs.RecordBatches.{none_is, view_with}
use Rattle.hdt_build.proofs.batches.Batches.is_empty.Goals as goal

pub returns-clause-none : goal.returns-clause-none
returns-clause-none g c empty =
    let b = c.self.inside in
    let none = eqb-true _ _ (sym c.is_empty.ensures ∙ c.if-not-is_empty.false) in
    sym (view_with b.has_failed _ c.args.self.now c.self.view_is c.if-self.false)
    ∙ none_is b.records.items b.triples.items (collected_triples b.collector)
    (nil_from_length b.records.items (omega (arith, none, b.records.ok.0))) (c.is_empty-2.ensures.0 empty)
