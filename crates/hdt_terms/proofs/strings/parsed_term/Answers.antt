use Rattle.std.proofs.Common.{sym}
use Rattle.hdt_terms.proofs.StringTerms.{grammar-dictionary}
use Rattle.hdt_terms.proofs.strings.parsed_term.Goals as goal

pub returns-in-Ok-clause-ok : goal.returns-in-Ok-clause-ok
returns-in-Ok-clause-ok c = λ term grammar is. c.in-Ok.ensures.only term (grammar-dictionary term grammar) (sym is)
