-- The next count is written, or none is left.
use mathlib.Core.Path.{◌∙◌}
use Rattle.std.proofs.Common.{arith}
use Rattle.std.proofs.lemmas.List.{length-set}
use Rattle.hdt_file.specs.Graph.{graph_view}
use Rattle.hdt_c.specs.Counts.{predicate_count}
use Rattle.hdt_c.proofs.Counting.{write_next, none_left}
use Rattle.hdt_c.proofs.predicates.put_counts.Goals as goal

pub put-preserved : goal.put-preserved
put-preserved c = record {
  put = write_next (predicate_count (graph_view c.args.graph.now)) c.count-len.result c.put.count
      c.predicate_count.result c.put.buffer _ c.put-test.true c.if-count-len.true c.predicate_count.ensures
      c.put.invariant.put;
  size = length-set c.put.buffer c.put.count c.predicate_count.result ∙ c.put.invariant.size;
  within = omega (arith, c.if-count-len.true);
}

pub returns-else-count-len-clause-put : goal.returns-else-count-len-clause-put
returns-else-count-len-clause-put c =
    none_left (predicate_count (graph_view c.args.graph.now)) c.count-len.result c.put.count c.put.buffer _
    (omega (arith, c.if-count-len.false)) c.put.invariant.put
