use Rattle.std.proofs.Common.{eqb, sym}
use Rattle.hdt_wire.proofs.FirstByte.{first_at, first_none}
use Rattle.hdt_wire.proofs.properties.find_byte.Goals as goal

pub returns-in-Some-clause-index : goal.returns-in-Some-clause-index
returns-in-Some-clause-index c = sym (first_at (λ b. eqb b c.args.byte) c.args.bytes.now c.in-Some.at c.in-Some.ensures)

pub returns-in-None-clause-index : goal.returns-in-None-clause-index
returns-in-None-clause-index c = sym (first_none (λ b. eqb b c.args.byte) c.args.bytes.now c.in-None.ensures)
