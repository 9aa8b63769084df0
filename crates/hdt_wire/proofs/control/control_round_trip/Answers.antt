use Rattle.hdt_wire.specs.Laws.Control.{control_again}
use Rattle.hdt_wire.proofs.control.control_round_trip.Goals as goal

pub returns : goal.returns
returns c = control_again
