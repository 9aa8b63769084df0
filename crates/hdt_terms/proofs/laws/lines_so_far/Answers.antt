use Rattle.hdt_terms.proofs.LineRuns.{texts_on, texts_last}
use Rattle.hdt_terms.proofs.laws.lines_so_far.Goals as goal

pub returns-clause-goes_on : goal.returns-clause-goes_on
returns-clause-goes_on c = texts_on

pub returns-clause-last : goal.returns-clause-last
returns-clause-last c = texts_last
