use Rattle.hdt_terms.specs.Faults.{term_in}
use Rattle.hdt_terms.specs.Grammar.{Encodes}
use Rattle.hdt_terms.proofs.LawsLemmas.{one, spelled_there}
use Rattle.hdt_terms.proofs.CompleteTexts.{Encodes-term_in}
use Rattle.hdt_terms.proofs.GrammarTerms.{Encodes-IsGrammarTerm}
use Rattle.hdt_terms.proofs.laws.text_encodes_one_term.Goals as goal

pub returns-clause-one : goal.returns-clause-one
returns-clause-one c = one Encodes term_in spelled_there Encodes-term_in

pub returns-clause-grammar : goal.returns-clause-grammar
returns-clause-grammar c = Encodes-IsGrammarTerm
