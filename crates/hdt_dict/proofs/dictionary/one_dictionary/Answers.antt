use Rattle.hdt_wire.specs.Laws.Exact.{one_value, value_or_fault}
use Rattle.hdt_dict.specs.Dictionary.{IsDictionaryAt, dictionary_at}
use Rattle.hdt_dict.specs.Laws.Dictionary.{dictionary_exact}
use Rattle.hdt_dict.proofs.dictionary.one_dictionary.Goals as goal

pub returns-clause-one : goal.returns-clause-one
returns-clause-one c = λ bytes at d e fits. one_value (dictionary_at bytes at) (λ d. IsDictionaryAt d bytes at) d e
    (dictionary_exact bytes at fits)

pub returns-clause-or_fault : goal.returns-clause-or_fault
returns-clause-or_fault c =
    λ bytes at fits. value_or_fault (dictionary_at bytes at) (λ d. IsDictionaryAt d bytes at)
    (dictionary_exact bytes at fits)
