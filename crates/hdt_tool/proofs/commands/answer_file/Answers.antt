use Rattle.std.proofs.Common.{List, ℕ, inr, subst}
use Rattle.std.proofs.lemmas.Result.{IfOk-weaker, IfErr-weaker, on_ok_weaker}
use Rattle.hdt_file.specs.File.{IsLayout}
use Rattle.hdt_file.specs.Graph.{graph_view}
use Rattle.hdt_tool.proofs.commands.answer_file.Goals as goal

pub returns-clause-ok : goal.returns-clause-ok
returns-clause-ok g c =
    let graph = graph_view c.in_ok-graph.graph in
    let encoded = subst (λ (b : List ℕ). IsLayout b graph) c.deref.ensures.value c.in_ok-graph.ensures.found in
    IfOk-weaker c.answer_requests.result _ _
    (λ report h. record {
      bytes = c.in_ok-bytes.bytes.items;
      read = c.in_ok-bytes.ensures.ok;
      holds =
          record { graph = graph; encoded = encoded; holds = h };
    })
    c.answer_requests.ensures.ok

pub returns-clause-stopped : goal.returns-clause-stopped
returns-clause-stopped g c =
    let graph = graph_view c.in_ok-graph.graph in
    let encoded = subst (λ (b : List ℕ). IsLayout b graph) c.deref.ensures.value c.in_ok-graph.ensures.found in
    IfErr-weaker c.answer_requests.result _ _
    (λ e h. inr (record {
      bytes = c.in_ok-bytes.bytes.items;
      read = c.in_ok-bytes.ensures.ok;
      holds =
          record { graph = graph; encoded = encoded; holds = h };
    }))
    c.answer_requests.ensures.stopped

pub returns-clause-write : goal.returns-clause-write
returns-clause-write g c =
    let graph = graph_view c.in_ok-graph.graph in
    let encoded = subst (λ (b : List ℕ). IsLayout b graph) c.deref.ensures.value c.in_ok-graph.ensures.found in
    IfErr-weaker c.answer_requests.result _ _
    (λ e h n is. record {
      bytes = c.in_ok-bytes.bytes.items;
      read = c.in_ok-bytes.ensures.ok;
      holds =
          record { graph = graph; encoded = encoded; holds = h };
    })
    c.answer_requests.ensures.stopped

pub returns-clause-reader_unfailed : goal.returns-clause-reader_unfailed
returns-clause-reader_unfailed g c =
    on_ok_weaker c.answer_requests.result (λ input. (c.in_ok-bytes.ensures.reader_unfailed, input))
    c.answer_requests.ensures.reader_unfailed
