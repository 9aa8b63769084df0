use Rattle.std.proofs.Common.{arith}
use Rattle.hdt_wire.specs.Control.{expected_control_info}
use Rattle.hdt_wire.specs.Laws.Control.{control_is_bytes, control_only}
use Rattle.hdt_wire.proofs.Reading.{control_info_found, control_info_only}
use Rattle.hdt_wire.proofs.control.read_control.Goals as goal

pub returns-clause-found : goal.returns-clause-found
returns-clause-found c = control_info_found c.args.kind c.args.bytes.now c.args.at c.read_by_checks.result
    (λ i. omega (arith, c.type_inv.bytes i)) c.read_by_checks.ensures.exact

pub returns-clause-only : goal.returns-clause-only
returns-clause-only c = λ properties end none h.
    let fits = control_is_bytes c.args.kind c.args.bytes.now c.args.at properties end
    (λ i. omega (arith, c.type_inv.bytes i)) h in
    control_info_only (expected_control_info c.args.kind properties c.args.at end) c.read_by_checks.result _
    c.read_by_checks.ensures.exact
    (control_only c.args.kind c.args.bytes.now c.args.at properties end fits none h)
