use Rattle.hdt_build.proofs.RelabelledOrder.{order_kept, strings_distinct}
use Rattle.hdt_build.proofs.laws.relabelling_keeps_the_order.Goals as goal

pub returns-clause-order : goal.returns-clause-order
returns-clause-order c = order_kept

pub returns-clause-distinct : goal.returns-clause-distinct
returns-clause-distinct c = strings_distinct
