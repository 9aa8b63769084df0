use Rattle.hdt_seq.specs.Laws.ExactSequences.{numbers_exact, bits_exact}
use Rattle.hdt_seq.proofs.checks.sequences_are_exact.Goals as goal

pub returns-clause-numbers : goal.returns-clause-numbers
returns-clause-numbers c = numbers_exact

pub returns-clause-bits : goal.returns-clause-bits
returns-clause-bits c = bits_exact
