use Rattle.hdt_wire.specs.Laws.VByte.{vbyte_encodes, vbyte_unique, begins_no_other, vbyte_again}
use Rattle.hdt_wire.proofs.vbyte.vbyte_round_trip.Goals as goal

pub returns-clause-spelled : goal.returns-clause-spelled
returns-clause-spelled c = vbyte_encodes

pub returns-clause-alone : goal.returns-clause-alone
returns-clause-alone c = vbyte_unique

pub returns-clause-begins_no_other : goal.returns-clause-begins_no_other
returns-clause-begins_no_other c = begins_no_other

pub returns-clause-again : goal.returns-clause-again
returns-clause-again c = vbyte_again
