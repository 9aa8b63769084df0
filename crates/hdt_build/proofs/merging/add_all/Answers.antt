use Rattle.std.proofs.Common.{◌∙◌, length, ap, map, arith}
use Rattle.std.proofs.lemmas.List.{length-append, take_all}
use Rattle.hdt_file.specs.Graph.{graph_view}
use Rattle.hdt_build.specs.Layouts.{denoted_by, union_of}
use Rattle.hdt_build.proofs.DenotedStrings.{some_denoted}
use Rattle.hdt_build.proofs.Unions.{union_more}
use Rattle.hdt_build.proofs.merging.add_all.Goals as goal

pub loop-graph-preserved : goal.loop-graph-preserved
loop-graph-preserved c =
    let l = c.loop-graph in
    let i = l.invariant in
    let graph = c.graph-item.result in
    let g = graph_view graph in
    let more = c.in_ok-merger-2.ensures.added in
    record {
      union = more ∙ union_more graph_view c.args.graphs.now l.graph-index graph l.merger c.loop-graph-test.true
          c.graph-item.is i.union;
      some = omega (
        arith,
        i.some,
        ap length more,
        length-append l.merger (denoted_by g),
        some_denoted g c.is_graph.ensures,
      );
    }

pub returns-clause-union : goal.returns-clause-union
returns-clause-union c =
    let l = c.loop-graph in
    l.invariant.union
    ∙ ap (λ gs. union_of (map graph_view gs)) (take_all l.graph-index c.args.graphs.now
    (omega (arith, c.loop-graph-test.false)))
