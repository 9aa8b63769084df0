use Rattle.hdt_front.specs.Laws.SectionWriting.{section_encoded}
use Rattle.hdt_front.specs.Laws.Canonical.{canonical_encoded, canonical_again}
use Rattle.hdt_front.proofs.laws.section_round_trip.Goals as goal

pub returns-clause-canonical : goal.returns-clause-canonical
returns-clause-canonical c = canonical_encoded

pub returns-clause-again : goal.returns-clause-again
returns-clause-again c = canonical_again

pub returns-clause-front_coded : goal.returns-clause-front_coded
returns-clause-front_coded c = section_encoded
