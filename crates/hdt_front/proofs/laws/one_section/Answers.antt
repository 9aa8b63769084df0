use Rattle.hdt_wire.specs.Laws.Exact.{one_value, value_or_fault}
use Rattle.hdt_front.specs.Section.{IsSectionAt, section_at}
use Rattle.hdt_front.specs.Laws.Section.{section_exact}
use Rattle.hdt_front.proofs.laws.one_section.Goals as goal

pub returns-clause-one : goal.returns-clause-one
returns-clause-one c = λ bytes at s t fits. one_value (section_at bytes at) (λ s. IsSectionAt s bytes at) s t
    (section_exact bytes at fits)

pub returns-clause-or_fault : goal.returns-clause-or_fault
returns-clause-or_fault c =
    λ bytes at fits. value_or_fault (section_at bytes at) (λ s. IsSectionAt s bytes at) (section_exact bytes at fits)
