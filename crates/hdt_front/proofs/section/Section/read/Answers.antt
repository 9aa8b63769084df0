use Rattle.std.proofs.Common.{length}
use Rattle.hdt_front.specs.Laws.Strings.{fewer}
use Rattle.hdt_front.proofs.section.Section.read.Goals as goal

pub returns-clause-end : goal.returns-clause-end
returns-clause-end c = fewer c.args.at (length c.args.bytes.now) _ _ c.in_ok-packed.ensures.end
