use Rattle.hdt_seq.specs.Laws.NumbersReading.{numbers_encodes, numbers_again, numbers_begin_no_other}
use Rattle.hdt_seq.proofs.writing.numbers_round_trip.Goals as goal

pub returns-clause-spelled : goal.returns-clause-spelled
returns-clause-spelled c = numbers_encodes

pub returns-clause-again : goal.returns-clause-again
returns-clause-again c = numbers_again

pub returns-clause-begins_no_other : goal.returns-clause-begins_no_other
returns-clause-begins_no_other c = numbers_begin_no_other
