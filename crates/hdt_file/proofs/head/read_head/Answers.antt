use Rattle.std.proofs.Common.{arith}
use Rattle.hdt_wire.specs.Laws.ExactReading.{reads_found, reads_only}
use Rattle.hdt_file.specs.Head.{IsHead, decode_head, head_parts}
use Rattle.hdt_file.proofs.HeadLaws.{head_exact}
use Rattle.hdt_file.proofs.head.read_head.Goals as goal

pub returns-clause-found : goal.returns-clause-found
returns-clause-found c =
    let bytes = c.args.bytes.now in
    reads_found head_parts (decode_head bytes) (λ h. IsHead h bytes) c.read_by_checks.result
    (head_exact bytes (λ i. omega (arith, c.type_inv.bytes i)) (omega arith)) c.read_by_checks.ensures.exact

pub returns-clause-only : goal.returns-clause-only
returns-clause-only c =
    let bytes = c.args.bytes.now in
    reads_only head_parts (decode_head bytes) (λ h. IsHead h bytes) c.read_by_checks.result
    (head_exact bytes (λ i. omega (arith, c.type_inv.bytes i)) (omega arith)) c.read_by_checks.ensures.exact
