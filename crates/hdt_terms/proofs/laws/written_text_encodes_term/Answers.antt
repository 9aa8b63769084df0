use Rattle.hdt_terms.proofs.WrittenTerms.{written-Encodes}
use Rattle.hdt_terms.proofs.WrittenLines.{written-HasNoLineEnd}
use Rattle.hdt_terms.proofs.laws.written_text_encodes_term.Goals as goal

pub returns-clause-encodes : goal.returns-clause-encodes
returns-clause-encodes c = written-Encodes

pub returns-clause-no_end : goal.returns-clause-no_end
returns-clause-no_end c = written-HasNoLineEnd
