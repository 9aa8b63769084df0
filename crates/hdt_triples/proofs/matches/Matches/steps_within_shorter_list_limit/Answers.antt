use Rattle.hdt_triples.proofs.PredicateObjectLaws.{fewer}
use Rattle.hdt_triples.proofs.matches.Matches.steps_within_shorter_list_limit.Goals as goal

pub returns : goal.returns
returns c = fewer c.args.self.now c.steps_within_limit.ensures
