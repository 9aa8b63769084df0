use Rattle.hdt_seq.specs.Laws.BitsReading.{bits_encodes, bits_again, bits_begin_no_other}
use Rattle.hdt_seq.proofs.writing.bits_round_trip.Goals as goal

pub returns-clause-spelled : goal.returns-clause-spelled
returns-clause-spelled c = bits_encodes

pub returns-clause-again : goal.returns-clause-again
returns-clause-again c = bits_again

pub returns-clause-begins_no_other : goal.returns-clause-begins_no_other
returns-clause-begins_no_other c = bits_begin_no_other
