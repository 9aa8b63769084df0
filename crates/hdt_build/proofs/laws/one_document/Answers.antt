use Rattle.hdt_build.proofs.OneDocument.{one_document}
use Rattle.hdt_build.proofs.laws.one_document.Goals as goal

pub returns : goal.returns
returns c = one_document c.line_or_fault.ensures.one_line
