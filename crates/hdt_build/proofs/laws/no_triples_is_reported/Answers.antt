use Rattle.hdt_build.proofs.NoTriples.{none_built, no_other_fault}
use Rattle.hdt_build.proofs.laws.no_triples_is_reported.Goals as goal

pub returns-clause-unbuilt : goal.returns-clause-unbuilt
returns-clause-unbuilt c = none_built c.line_or_fault.ensures.one_line

pub returns-clause-fault : goal.returns-clause-fault
returns-clause-fault c = no_other_fault c.line_or_fault.ensures.apart
