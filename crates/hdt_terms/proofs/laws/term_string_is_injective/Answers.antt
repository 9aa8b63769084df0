use Rattle.hdt_terms.proofs.StringTerms.{one}
use Rattle.hdt_terms.proofs.laws.term_string_is_injective.Goals as goal

pub returns : goal.returns
returns c = one
