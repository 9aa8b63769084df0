-- The handles so far are open, and this one may be closed.
use Rattle.std.proofs.Common.{List, arith, subst, sym}
use Rattle.std.specs.List.{All}
use Rattle.std.proofs.lemmas.List.{take_all}
use Rattle.std.proofs.lemmas.List.Elements.{All-more}
use Rattle.hdt_c.specs.Handle.{IsOpen}
use Rattle.hdt_c.specs.declared.handle.HdtGraph.{HdtGraph}
use Rattle.hdt_c.proofs.merging.are_open.Goals as goal

pub returns-then-graph-ne1-clause-closed : goal.returns-then-graph-ne1-clause-closed
returns-then-graph-ne1-clause-closed c = λ _. record {
  handle = c.graph-item.result;
  is_in = (c.loop-graph.graph-index, c.loop-graph-test.true, sym c.graph-item.is);
  closed = c.if-graph-ne1.true;
}

pub loop-graph-preserved : goal.loop-graph-preserved
loop-graph-preserved c =
    All-more IsOpen c.args.graphs.now c.loop-graph.graph-index c.graph-item.result c.loop-graph-test.true
    c.loop-graph.invariant (subst (λ (h : HdtGraph). IsOpen h) c.graph-item.is c.if-graph-ne1.false)

pub returns-clause-all : goal.returns-clause-all
returns-clause-all c = λ _. subst (λ (hs : List HdtGraph). All IsOpen hs)
    (take_all c.loop-graph.graph-index c.args.graphs.now (omega (arith, c.loop-graph-test.false)))
    c.loop-graph.invariant
