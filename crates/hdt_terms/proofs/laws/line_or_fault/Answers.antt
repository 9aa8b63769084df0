use Rattle.hdt_terms.specs.LineParsing.{line_in}
use Rattle.hdt_terms.specs.Lines.{Line}
use Rattle.hdt_terms.proofs.LawsLemmas.{says_or_fault, apart, one}
use Rattle.hdt_terms.proofs.LineCompleteness.{line_again}
use Rattle.hdt_terms.proofs.LineSoundness.{line_is}
use Rattle.hdt_terms.proofs.laws.line_or_fault.Goals as goal

pub returns-clause-either : goal.returns-clause-either
returns-clause-either c = says_or_fault Line line_in line_is line_again

pub returns-clause-apart : goal.returns-clause-apart
returns-clause-apart c = apart Line line_in line_is line_again

pub returns-clause-one_line : goal.returns-clause-one_line
returns-clause-one_line c = one Line line_in line_is line_again
