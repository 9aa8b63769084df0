-- The graphs so far are added, and each handle has its graph.
use Rattle.std.proofs.Common.{◌∙◌, List, length, ap, arith, subst, sym}
use Rattle.std.proofs.lemmas.List.{length-set}
use Rattle.hdt_dict.specs.Strings.{IsDictionaryString}
use Rattle.hdt_file.specs.Denoted.{StringTriple}
use Rattle.hdt_c.proofs.MergeLaws.{open_at, same_after, triples_more}
use Rattle.hdt_c.proofs.merging.add_graphs.Goals as goal

pub graphs-preserved : goal.graphs-preserved
graphs-preserved c =
    let l = c.graphs in
    let old = c.args.graphs.now in
    let d = c.index-graphs-at.result in
    let i = l.invariant in
    let lt = c.graphs-test.true in
    let e = c.in_ok-merger-2.ensures in
    record {
      within = omega (arith, lt, length-set l.graphs l.at c.add_graph.new.graph);
      added = e.added
          ∙ triples_more old l.graphs l.at d i.kept lt c.args.apart l.merger c.deref.result.now
          (c.deref.ensures.value ∙ c.in_ok-prefix.ensures.is) i.added;
      none = λ none. absurd (omega (arith, e.some, ap (λ (ts : List StringTriple). length ts) none));
      kept = same_after old l.graphs l.at d i.kept lt c.add_graph.new.graph c.add_graph.ensures.kept;
    }

pub add_graph-requires-clause-open : goal.add_graph-requires-clause-open
add_graph-requires-clause-open c =
    open_at c.args.graphs.now c.graphs.graphs c.graphs.at c.index-graphs-at.result c.graphs.invariant.kept
    c.graphs-test.true c.requires

pub add_graph-requires-clause-text : goal.add_graph-requires-clause-text
add_graph-requires-clause-text c = subst IsDictionaryString (sym c.deref.ensures.value) c.in_ok-prefix.ensures.text

pub returns-in_err-merger-2-clause-kept : goal.returns-in_err-merger-2-clause-kept
returns-in_err-merger-2-clause-kept c =
    let l = c.graphs in
    same_after c.args.graphs.now l.graphs l.at c.index-graphs-at.result l.invariant.kept c.graphs-test.true
    c.add_graph.new.graph c.add_graph.ensures.kept
