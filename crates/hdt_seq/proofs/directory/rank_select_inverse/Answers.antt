use Rattle.std.proofs.Common.{refl}
use Rattle.hdt_seq.specs.Laws.RankSelect.{some_select, select_unique, select_ascends, ones_through_select}
use Rattle.hdt_seq.specs.Laws.RankSelect.{ones_before_mono}
use Rattle.hdt_seq.proofs.directory.rank_select_inverse.Goals as goal

pub returns-clause-number : goal.returns-clause-number
returns-clause-number c = λ bits i is. record { is_one = is; before = refl }

pub returns-clause-some : goal.returns-clause-some
returns-clause-some c = some_select

pub returns-clause-one : goal.returns-clause-one
returns-clause-one c = select_unique

pub returns-clause-ascend : goal.returns-clause-ascend
returns-clause-ascend c = select_ascends

pub returns-clause-through : goal.returns-clause-through
returns-clause-through c = ones_through_select

pub returns-clause-monotone : goal.returns-clause-monotone
returns-clause-monotone c = ones_before_mono
