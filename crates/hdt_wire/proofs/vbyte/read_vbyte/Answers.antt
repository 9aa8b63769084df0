use Rattle.std.proofs.Common.{◌∙◌, arith}
use Rattle.hdt_wire.proofs.Reading.{number_found, number_ends}
use Rattle.hdt_wire.specs.Laws.VByte.{vbyte_only}
use Rattle.hdt_wire.proofs.vbyte.read_vbyte.Goals as goal

pub returns-clause-found : goal.returns-clause-found
returns-clause-found c = number_found c.args.bytes.now c.args.at c.read_short_or_long.result
    (λ i. omega (arith, c.type_inv.bytes i)) c.read_short_or_long.ensures.exact

pub returns-clause-only : goal.returns-clause-only
returns-clause-only c = λ v end lt h. c.read_short_or_long.ensures.exact
    ∙ vbyte_only c.args.bytes.now c.args.at v end lt h

pub returns-clause-end : goal.returns-clause-end
returns-clause-end c = number_ends c.args.bytes.now c.args.at c.read_short_or_long.result
    c.read_short_or_long.ensures.exact
