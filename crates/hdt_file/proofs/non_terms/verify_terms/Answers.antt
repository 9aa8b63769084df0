use Rattle.std.proofs.Common.{arith}
use Rattle.hdt_file.proofs.NonTermLaws.{verdict_is}
use Rattle.hdt_file.proofs.non_terms.verify_terms.Goals as goal

pub returns-clause-found : goal.returns-clause-found
returns-clause-found c =
    let e = c.in_ok-term_verdict.ensures in
    verdict_is c.args.bytes.now c.in_ok-layout.layout c.in_ok-term_verdict.field-0 (λ i. omega (arith, c.type_inv.bytes i))
    (omega arith) c.in_ok-layout.ensures.found c.in_ok-layout.ensures.parts e.counts e.found
