use Rattle.hdt_front.specs.Laws.Section.{section_exact}
use Rattle.hdt_front.proofs.laws.sections_are_exact.Goals as goal

pub returns : goal.returns
returns c = section_exact
