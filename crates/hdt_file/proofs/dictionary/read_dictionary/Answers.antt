use Rattle.std.proofs.Common.{arith}
use Rattle.hdt_wire.specs.Laws.ExactReading.{reads_unless_oom_found, reads_unless_oom_only}
use Rattle.hdt_file.specs.Faults.{open_fault_of}
use Rattle.hdt_file.specs.Dictionary.{IsHeadAndDictionary, front_view, decode_head_and_dictionary}
use Rattle.hdt_file.proofs.HeadLaws.{front_exact}
use Rattle.hdt_file.proofs.dictionary.read_dictionary.Goals as goal

pub returns-clause-found : goal.returns-clause-found
returns-clause-found c =
    reads_unless_oom_found front_view (decode_head_and_dictionary c.args.bytes.now)
    (λ f. IsHeadAndDictionary f c.args.bytes.now) open_fault_of c.read_by_checks.result
    (front_exact c.args.bytes.now (λ i. omega (arith, c.type_inv.bytes i)) (omega arith)) c.read_by_checks.ensures.exact

pub returns-clause-only : goal.returns-clause-only
returns-clause-only c =
    reads_unless_oom_only front_view (decode_head_and_dictionary c.args.bytes.now)
    (λ f. IsHeadAndDictionary f c.args.bytes.now) open_fault_of c.read_by_checks.result
    (front_exact c.args.bytes.now (λ i. omega (arith, c.type_inv.bytes i)) (omega arith)) c.read_by_checks.ensures.exact
