use Rattle.hdt_front.proofs.LookupInverse.{enough, least, none}
use Rattle.hdt_front.proofs.laws.blocks_are_least.Goals as goal

pub returns-clause-enough : goal.returns-clause-enough
returns-clause-enough c = enough

pub returns-clause-least : goal.returns-clause-least
returns-clause-least c = least

pub returns-clause-none : goal.returns-clause-none
returns-clause-none c = none
