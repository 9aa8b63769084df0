use Rattle.std.proofs.lemmas.Result.{IfOk-weaker}
use Rattle.hdt_file.specs.Graph.{layout_view}
use Rattle.hdt_tool.proofs.scratch_merge.collect_file.Goals as goal

pub with_layout-requires-clause-graph : goal.with_layout-requires-clause-graph
with_layout-requires-clause-graph g c =
    c.layouts_are_graphs.ensures _ (layout_view c.in_ok-layout.layout) c.in_ok-layout.ensures.found

pub returns-clause-ok : goal.returns-clause-ok
returns-clause-ok g c =
    IfOk-weaker c.with_layout.result _ _
    (λ made added. record {
      bytes = c.in_ok-bytes.bytes.items;
      read = c.in_ok-bytes.ensures.ok;
      holds = record {
        graph = layout_view c.in_ok-layout.layout;
        encoded = rw c.deref.ensures.value at c.in_ok-layout.ensures.found;
        holds = λ known. rw (c.as_slice.ensures.value, c.in_ok-prefix.ensures.is) at added known;
      };
    })
    c.with_layout.ensures.added
