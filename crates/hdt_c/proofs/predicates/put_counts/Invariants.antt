use Rattle.std.proofs.Common.{◌≡◌, ◌+◌, ◌-◌, ◌++◌, ◌≤◌, map, take, drop, length}
use Rattle.std.specs.List.{range_with_len}
use Rattle.hdt_file.specs.Graph.{graph_view}
use Rattle.hdt_c.specs.CallerBuffer.{overwritten_prefix}
use Rattle.hdt_c.specs.Counts.{predicate_count, predicate_counts}
use Rattle.hdt_c.proofs.predicates.put_counts.Given as goal

-- the counts written so far and the remaining ones are all that are written
abbrev pub invariant-put : goal.invariant-put
invariant-put l = record {
  put : take l.count l.buffer
      ++ overwritten_prefix (map (predicate_count (graph_view l.fn.graph))
      (range_with_len (l.count + 1) (l.len - l.count))) (drop l.count l.buffer)
      ≡ overwritten_prefix (predicate_counts (graph_view l.fn.graph)) l.fn.buffer;
  size : length l.buffer ≡ length l.fn.buffer;
  within : l.count ≤ l.len;
}

abbrev pub decreases-put : goal.decreases-put
decreases-put l = length l.buffer - l.count
