use Rattle.hdt_file.proofs.TextLaws.{one_text, one_first, not_both}
use Rattle.hdt_file.proofs.laws.one_text.Goals as goal

pub returns-clause-text : goal.returns-clause-text
returns-clause-text c = one_text c.term_string_is_injective.ensures

pub returns-clause-first : goal.returns-clause-first
returns-clause-first c = one_first

pub returns-clause-apart : goal.returns-clause-apart
returns-clause-apart c = not_both
