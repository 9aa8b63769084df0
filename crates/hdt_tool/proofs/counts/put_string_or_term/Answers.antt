use Rattle.hdt_tool.proofs.CountLines.{shown_term}
use Rattle.hdt_tool.proofs.counts.put_string_or_term.Goals as goal

pub returns-clause-ok : goal.returns-clause-ok
returns-clause-ok c = shown_term _ _ _ _ _ c.if-raw.false c.in_ok-put_string.ensures.found
