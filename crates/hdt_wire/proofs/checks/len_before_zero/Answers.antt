use Rattle.std.proofs.Common.{eqb, sym}
use Rattle.hdt_wire.proofs.FirstByte.{first_at, first_none}
use Rattle.hdt_wire.proofs.checks.len_before_zero.Goals as goal

pub returns-in-Some-clause-len : goal.returns-in-Some-clause-len
returns-in-Some-clause-len c = sym (first_at (λ b. eqb b 0) c.args.bytes.now c.in-Some.len c.in-Some.ensures)

pub returns-in-None-clause-len : goal.returns-in-None-clause-len
returns-in-None-clause-len c = sym (first_none (λ b. eqb b 0) c.args.bytes.now c.in-None.ensures)
