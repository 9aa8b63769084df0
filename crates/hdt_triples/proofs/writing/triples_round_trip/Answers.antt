use Rattle.hdt_triples.specs.Laws.Writing.{triples_are, triples_stand}
use Rattle.hdt_triples.proofs.writing.triples_round_trip.Goals as goal

pub returns-clause-counted : goal.returns-clause-counted
returns-clause-counted c = triples_are

pub returns-clause-written : goal.returns-clause-written
returns-clause-written c = triples_stand
