use Rattle.hdt_front.specs.Laws.StringOffset.{place_is}
use Rattle.hdt_front.proofs.laws.string_places.Goals as goal

pub returns : goal.returns
returns c = place_is
