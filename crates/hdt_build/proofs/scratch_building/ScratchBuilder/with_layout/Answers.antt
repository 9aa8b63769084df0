use Rattle.std.proofs.Common.{ap, arith, length, subst, sym}
use Rattle.std.proofs.lemmas.List.{length-append, length-map}
use Rattle.hdt_file.specs.Graph.{layout_view}
use Rattle.hdt_build.specs.Layouts.{denoted_by}
use Rattle.hdt_build.specs.Reading.{HasDictionaryStrings}
use Rattle.hdt_build.specs.Relabelling.{relabelled_triple, relabelled_triples}
use Rattle.hdt_build.proofs.DenotedStrings.{denoted_texts, some_denoted}
use Rattle.hdt_build.proofs.Relabelled.{relabelled_texts}
use Rattle.hdt_build.proofs.Unions.{joined_texts}
use Rattle.hdt_build.proofs.scratch_building.ScratchBuilder.with_layout.Goals as goal

pub invariant_of-result : goal.invariant_of-result
invariant_of-result g c known =
    let graph = layout_view c.args.layout.now in
    let prefix = c.args.prefix.now in
    subst HasDictionaryStrings (sym (c.in_ok-batches.ensures.added known))
    (joined_texts c.self.inside.batches (relabelled_triples prefix (denoted_by graph)) (c.self.invariant known)
    (relabelled_texts prefix (denoted_by graph) c.requires.prefix (denoted_texts graph c.requires.graph)))

pub returns-clause-some : goal.returns-clause-some
returns-clause-some g c known =
    let graph = layout_view c.args.layout.now in
    let prefix = c.args.prefix.now in
    omega (
      arith,
      ap length (c.in_ok-batches.ensures.added known),
      length-append c.self.inside.batches (relabelled_triples prefix (denoted_by graph)),
      length-map (denoted_by graph) (relabelled_triple prefix),
      some_denoted graph c.requires.graph,
    )
