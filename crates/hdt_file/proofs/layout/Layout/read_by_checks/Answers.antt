use Rattle.std.proofs.Common.{ap, arith}
use Rattle.hdt_wire.specs.declared.Role.TheVariants.{Subject, Predicate, Object}
use Rattle.hdt_triples.specs.declared.pattern.Counts.{Counts}
use Rattle.hdt_file.proofs.layout.Layout.read_by_checks.Goals as goal

pub read-requires-2-clause-subjects : goal.read-requires-2-clause-subjects
read-requires-2-clause-subjects c =
    omega (arith, ap (λ (n : Counts). n.subjects) c.role_counts.ensures, c.in_ok-dictionary.ensures.few Subject)

pub read-requires-2-clause-predicates : goal.read-requires-2-clause-predicates
read-requires-2-clause-predicates c =
    omega (arith, ap (λ (n : Counts). n.predicates) c.role_counts.ensures, c.in_ok-dictionary.ensures.few Predicate)

pub read-requires-2-clause-objects : goal.read-requires-2-clause-objects
read-requires-2-clause-objects c =
    omega (arith, ap (λ (n : Counts). n.objects) c.role_counts.ensures, c.in_ok-dictionary.ensures.few Object)
