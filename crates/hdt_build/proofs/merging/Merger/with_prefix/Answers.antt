use Rattle.std.proofs.Common.{◌∙◌, ◌++◌, List, ap, arith, length, map, subst, sym}
use Rattle.std.proofs.lemmas.List.{length-append, length-map}
use Rattle.hdt_file.specs.Denoted.{StringTriple}
use Rattle.hdt_file.specs.Graph.{graph_view}
use Rattle.hdt_build.specs.Graph.{string_triples_of}
use Rattle.hdt_build.specs.Inside.Rewriting.{with_new_ids}
use Rattle.hdt_build.specs.Layouts.{denoted_by}
use Rattle.hdt_build.specs.Reading.{HasDictionaryStrings}
use Rattle.hdt_build.specs.Relabelling.{relabelled_triple, relabelled_triples}
use Rattle.hdt_build.proofs.DenotedStrings.{denoted_texts, some_denoted}
use Rattle.hdt_build.proofs.GraphIndices.{graph_added, mapped_within}
use Rattle.hdt_build.proofs.IndexTriples.{joined_within}
use Rattle.hdt_build.proofs.Relabelled.{relabelled_texts}
use Rattle.hdt_build.proofs.Unions.{joined_texts}
use Rattle.hdt_build.proofs.merging.Merger.with_prefix.Goals as goal

pub invariant_of-result : goal.invariant_of-result
invariant_of-result c =
    let g = graph_view c.args.graph.now in
    let prefix = c.args.prefix.now in
    let old = c.self.inside in
    let before = c.self.invariant in
    let found = c.in_ok-indices.ensures in
    let is = graph_added prefix g c.is_graph.ensures c.append_graph.new.terms c.in_ok-indices.indices found.maps
    old.strings old.ids found.list before.sound in
    rw c.in_ok-append_triples.ensures (record {
      sound = joined_within old.strings c.append_graph.new.terms found.list old.ids before.sound
          (map (with_new_ids c.in_ok-indices.indices) g.triples)
          (mapped_within prefix g c.is_graph.ensures c.append_graph.new.terms c.in_ok-indices.indices found.maps);
      texts = subst HasDictionaryStrings (sym is)
          (joined_texts (string_triples_of old.strings old.ids) (relabelled_triples prefix (denoted_by g)) before.texts
          (relabelled_texts prefix (denoted_by g) c.requires (denoted_texts g c.is_graph.ensures)));
    })

pub returns-clause-added : goal.returns-clause-added
returns-clause-added c =
    let g = graph_view c.args.graph.now in
    let prefix = c.args.prefix.now in
    let old = c.self.inside in
    let found = c.in_ok-indices.ensures in
    let is = graph_added prefix g c.is_graph.ensures c.append_graph.new.terms c.in_ok-indices.indices found.maps
    old.strings old.ids found.list c.self.invariant.sound in
    rw c.in_ok-append_triples.ensures
    (is ∙ ap (λ (ts : List StringTriple). ts ++ relabelled_triples prefix (denoted_by g)) c.self.view_is)

pub returns-clause-some : goal.returns-clause-some
returns-clause-some c =
    let g = graph_view c.args.graph.now in
    let prefix = c.args.prefix.now in
    let old = c.self.inside in
    let found = c.in_ok-indices.ensures in
    let is = graph_added prefix g c.is_graph.ensures c.append_graph.new.terms c.in_ok-indices.indices found.maps
    old.strings old.ids found.list c.self.invariant.sound in
    rw c.in_ok-append_triples.ensures
    (omega (
      arith,
      ap length is,
      length-append (string_triples_of old.strings old.ids) (relabelled_triples prefix (denoted_by g)),
      length-map (denoted_by g) (relabelled_triple prefix),
      some_denoted g c.is_graph.ensures,
    ))
