use Rattle.std.proofs.Common.{◌∙◌, ◌++◌, List, ap, arith}
use Rattle.std.proofs.lemmas.List.{length-map}
use Rattle.hdt_file.specs.Denoted.{StringTriple}
use Rattle.hdt_file.specs.Graph.{layout_view}
use Rattle.hdt_build.specs.Layouts.{denoted_by}
use Rattle.hdt_build.specs.Relabelling.{relabelled_triple, relabelled_triples}
use Rattle.hdt_build.proofs.DenotedStrings.{some_denoted}
use Rattle.hdt_build.proofs.RecordBatches.{file_had, file_is, view_with}
use Rattle.hdt_build.proofs.batches.Batches.add_file.Goals as goal

pub invariant_of-self-in-Some : goal.invariant_of-self-in-Some
invariant_of-self-in-Some g c _ =
    let b = c.self.inside in
    let graph = layout_view c.args.layout.now in
    let prefix = c.args.prefix.now in
    rw (c.in_ok-push_item.ensures, c.in_ok-push_item-2.ensures)
    (file_had g.S.Scratch.IsKnown b.records.items b.triples.items b.collector (c.self.invariant c.in_ok-fail_if.ensures)
    (relabelled_triples prefix (denoted_by graph)) c.in-Some.records c.in-Some.triples
    (rw c.in-Some.is at c.in_ok-found.ensures) (c.is_empty.ensures.0 c.if-not-is_empty.false)
    (omega (arith, length-map (denoted_by graph) (relabelled_triple prefix), some_denoted graph c.requires)))

pub returns-in-Some-clause-added : goal.returns-in-Some-clause-added
returns-in-Some-clause-added g c _ known =
    let b = c.self.inside in
    let added = relabelled_triples c.args.prefix.now (denoted_by (layout_view c.args.layout.now)) in
    rw (c.in_ok-push_item.ensures, c.in_ok-push_item-2.ensures)
    (file_is g.S.Scratch.IsKnown b.records.items b.triples.items b.collector (c.self.invariant c.in_ok-fail_if.ensures)
    added c.in-Some.records c.in-Some.triples (rw c.in-Some.is at c.in_ok-found.ensures)
    (c.is_empty.ensures.0 c.if-not-is_empty.false) known)
    ∙ ap (λ (l : List StringTriple). l ++ added)
    (view_with b.has_failed _ c.args.self.now c.self.view_is c.in_ok-fail_if.ensures)
