use Rattle.std.proofs.Common.{◌≤◌, arith}
use Rattle.hdt_triples.specs.Remaining.{step_limit, steps_taken}
use Rattle.hdt_triples.specs.declared.matches.Matches.{Matches}
use Rattle.hdt_triples.specs.declared.matches.Matches.TheVariants.{Empty, Scan, Subject, SubjectObject, Pair, Predicate}
use Rattle.hdt_triples.specs.declared.matches.Matches.TheVariants.{PredicateObject, Object}
use Rattle.hdt_triples.proofs.matches.Matches.steps_within_limit.Goals as goal

few : (m : Matches) → steps_taken m ≤ step_limit m
unfolding steps_taken step_limit
few Empty = omega arith
few (Scan m) = omega (arith, m.few, m.positioned.within)
few (Subject m) = omega (arith, m.few)
few (SubjectObject m) = omega (arith, m.few)
few (Pair m) = omega (arith, m.few)
few (Predicate m) = omega (arith, m.few)
few (PredicateObject m) = omega (arith, m.short, m.few)
few (Object m) = omega (arith, m.few)

pub returns : goal.returns
returns c = few c.args.self.now
