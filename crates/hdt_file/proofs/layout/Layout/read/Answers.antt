use Rattle.std.proofs.Common.{arith}
use Rattle.hdt_wire.specs.Laws.ExactReading.{reads_unless_oom_found, reads_unless_oom_only}
use Rattle.hdt_file.specs.Faults.{open_fault_of}
use Rattle.hdt_file.specs.File.{IsLayout, decode_file, decode_graph}
use Rattle.hdt_file.specs.Graph.{layout_view}
use Rattle.hdt_file.proofs.FileLaws.{layout_exact, seen_gives}
use Rattle.hdt_file.proofs.layout.Layout.read.Goals as goal

pub returns-clause-exact : goal.returns-clause-exact
unfolding decode_graph
returns-clause-exact c =
    seen_gives c.read_by_checks.result (decode_file c.args.bytes.now) c.read_by_checks.ensures

pub returns-clause-found : goal.returns-clause-found
returns-clause-found c =
    let bytes = c.args.bytes.now in
    reads_unless_oom_found layout_view (decode_graph bytes) (IsLayout bytes) open_fault_of c.read_by_checks.result
    (layout_exact bytes (λ i. omega (arith, c.type_inv.bytes i)) (omega arith)) (returns-clause-exact c)

pub returns-clause-only : goal.returns-clause-only
returns-clause-only c =
    let bytes = c.args.bytes.now in
    reads_unless_oom_only layout_view (decode_graph bytes) (IsLayout bytes) open_fault_of c.read_by_checks.result
    (layout_exact bytes (λ i. omega (arith, c.type_inv.bytes i)) (omega arith)) (returns-clause-exact c)
