use Rattle.std.proofs.Common.{Err, ap}
use Rattle.std.proofs.lemmas.Result.{err_from_is_err_and}
use Rattle.hdt_file.specs.Graph.{graph_view}
use Rattle.hdt_tool.proofs.Rewriting.{not_rewritten, size_written}
use Rattle.hdt_tool.proofs.commands.rewrite_file.Goals as goal

pub returns-in_err-file-clause-reported : goal.returns-in_err-file-clause-reported
returns-in_err-file-clause-reported c =
    let p = err_from_is_err_and c.from_residual-in_err-file.result c.from_residual-in_err-file.ensures.1 in
    rw (p.1, p.2) (not_rewritten c.args.block_size c.args.bytes.now
    (graph_view c.in_ok-graph.graph) c.in_err-file.field-0.0 c.in_ok-graph.ensures.found
    (λ e. c.in_err-file.ensures.bad.0 (ap Err e)) c.in_err-file.ensures.unwritten)

pub returns-clause-ok : goal.returns-clause-ok
returns-clause-ok c = (
  c.in_ok-file.file.items,
  record {
    graph = graph_view c.in_ok-graph.graph;
    encoded = c.in_ok-graph.ensures.found;
    size = size_written c.args.block_size (λ bad. let told = c.in_ok-file.ensures.bad.1 bad in absurd cc);
    report = c.in_ok-file.report;
    file = c.in_ok-file.ensures.made;
    printed = c.in_ok-text.ensures.line;
  },
  c.in_ok-text.ensures.items,
)
