use Rattle.hdt_build.proofs.MergedFiles.{merged_alone, merged_in_any_order}
use Rattle.hdt_build.proofs.laws.merging_is_a_union.Goals as goal

pub returns-clause-order : goal.returns-clause-order
returns-clause-order c = merged_in_any_order

pub returns-clause-one : goal.returns-clause-one
returns-clause-one c = merged_alone
