use Rattle.hdt_front.proofs.LookupInverse.{found, only}
use Rattle.hdt_front.proofs.laws.look_ups_are_inverse.Goals as goal

pub returns-clause-found : goal.returns-clause-found
returns-clause-found c = found

pub returns-clause-only : goal.returns-clause-only
returns-clause-only c = only
